use Rattle.std.proofs.Common.{sym, subst, arith}
use Rattle.lines.specs.Impossible.{FirstImpossible}
use Rattle.lines.proofs.Placing.{placed}
use Rattle.lines.proofs.read.Goals as goal

pub returns-in-None : goal.returns-in-None
returns-in-None c = record { long = λ h. absurd (omega (arith, c.if-too_long.ensures)); reads = λ _. subst (FirstImpossible c.args.line.now) (sym c.place.ensures) (placed _ _ _ c.new-reader.ensures c.in-None.ensures).1 }
