use Rattle.std.proofs.Common.{◌≡◌, ◌+◌, drop}
use Rattle.charts.specs.Drafts.{arcs_of}
use Rattle.judging.specs.Calls.{stray}
use Rattle.casebooks.proofs.desk.offers.stray.Given as goal

-- what is left of the plan, from the node reached on, tells of the whole
abbrev pub invariant-loop-j : goal.invariant-loop-j
invariant-loop-j l = stray (arcs_of l.chart) (l.j + 1) l.node (drop l.j l.offered) ≡ stray (arcs_of l.chart) 1 0 l.offered
