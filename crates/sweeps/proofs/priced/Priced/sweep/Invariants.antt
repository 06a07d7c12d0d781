use Rattle.charts.specs.Drafts.{places_of, arcs_of}
use Rattle.ways.specs.Amounts.{marked, price_at}
use Rattle.ways.specs.Ways.{Filled}
use Rattle.sweeps.proofs.priced.Priced.sweep.Given as goal

-- the rows of the steps behind are filled
abbrev pub invariant-loop-step : goal.invariant-loop-step
invariant-loop-step g l =
    Filled g.T.Tally g.H.Heading (places_of l.self.chart.now) (arcs_of l.self.chart.now) (marked l.self.standing.now) (price_at l.self.prices.now) l.step l.out
