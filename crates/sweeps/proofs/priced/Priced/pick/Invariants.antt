use Rattle.std.proofs.Common.{ℕ, ◌<◌}
use Rattle.charts.specs.Drafts.{places_of, arcs_of}
use Rattle.ways.specs.Amounts.{marked, price_at}
use Rattle.ways.specs.Traces.{Attains}
use Rattle.sweeps.proofs.priced.Priced.pick.Given as goal

-- no arc behind attains the amount
abbrev pub invariant-loop-i : goal.invariant-loop-i
invariant-loop-i g l =
    (j : ℕ) → j < l.i → Attains g.T.Tally (places_of l.self.chart.now) (arcs_of l.self.chart.now) (marked l.self.standing.now) (price_at l.self.prices.now) l.place l.node j → ⊥
