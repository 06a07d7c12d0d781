use Rattle.std.proofs.Common.{take}
use Rattle.std.specs.Fmt.{HasWritten, IsPlainFormatter}
use Rattle.lines.specs.Forms.{numbers}
use Rattle.dossiers.proofs.answer.shown.PlanArcsDisplay.fmt.Given as goal

-- after the first arc, those before this one were written, each after a blank
abbrev pub invariant-loop-arc : goal.invariant-loop-arc
invariant-loop-arc g l = IsPlainFormatter l.initial.f → HasWritten g.W.Write.write_str_gives l.initial.f (numbers (take l.arc-index l.others)) l.f
