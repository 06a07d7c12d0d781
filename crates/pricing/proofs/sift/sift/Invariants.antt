use Rattle.std.proofs.Common.{◌≤◌}
use Rattle.plans.specs.Cases.{Case}
use Rattle.charts.specs.Drafts.{places_of, arcs_of}
use Rattle.through.specs.Keeping.{Tells, Sifted}
use Rattle.pricing.proofs.sift.sift.Given as goal

-- the marks behind are sifted
abbrev pub invariant-loop-i : goal.invariant-loop-i
invariant-loop-i g l = record {
  few : l.gone ≤ l.i;
  sifted : (keep : Case) → Tells g.T.Tally (places_of l.chart) (arcs_of l.chart) l.initial.standing l.prices (λ x front back r. goal.F-post g l.stays x front back r) keep → Sifted keep l.i l.initial.standing l.standing l.gone;
}
