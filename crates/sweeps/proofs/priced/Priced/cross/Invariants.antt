use Rattle.charts.specs.Drafts.{places_of, arcs_of}
use Rattle.ways.specs.Amounts.{marked, price_at}
use Rattle.ways.proofs.Tables.{Arriving}
use Rattle.sweeps.proofs.priced.Priced.cross.Given as goal

-- the row of the next step is filled by the arcs behind
abbrev pub invariant-loop-i : goal.invariant-loop-i
invariant-loop-i g l =
    Arriving g.T.Tally g.H.Heading (places_of l.self.chart.now) (arcs_of l.self.chart.now) (marked l.self.standing.now) (price_at l.self.prices.now) l.step l.i l.out
