use Rattle.std.proofs.Common.{◌≡◌, ◌+◌, take, drop}
use Rattle.plans.specs.Plans.{Node}
use Rattle.charts.specs.Drafts.{places_of, arcs_of}
use Rattle.ways.specs.Amounts.{marked, price_at, backward_amount}
use Rattle.ways.specs.Traces.{Completes}
use Rattle.sweeps.proofs.priced.Priced.trace.Given as goal

-- what follows the rule from the node on completes what is written, and an amount is there; the places past the plan's stay
abbrev pub invariant-loop-j : goal.invariant-loop-j
invariant-loop-j g l =
    Completes g.T.Tally (places_of l.self.chart.now) (arcs_of l.self.chart.now) (marked l.self.standing.now) (price_at l.self.prices.now) (take l.j l.plan) (l.j + 1) l.node
    × (backward_amount g.T.Tally (places_of l.self.chart.now) (arcs_of l.self.chart.now) (marked l.self.standing.now) (price_at l.self.prices.now) (l.j + 1) l.node ≡ g.T.Tally.nothing → ⊥)
    × Node (places_of l.self.chart.now) (l.j + 1) l.node
    × (drop (places_of l.self.chart.now) l.plan ≡ drop (places_of l.self.chart.now) l.initial.plan)
