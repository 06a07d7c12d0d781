-- What the sweeps and the trace of a priced chart give. Assumes nothing.
use Rattle.std.specs.Prelude.{ℕ, Bool, List, Option}
use Rattle.plans.specs.Cases.{standing}
use Rattle.plans.specs.Firsts.{cheapest}
use Rattle.charts.specs.Drafts.{places_of, arcs_of}
use Rattle.tallies.specs.declared.heading.Heading.{Ghosts as Directed}
use Rattle.tallies.specs.declared.tally.Tally.{Ghosts}
use Rattle.ways.specs.Amounts.{marked, price_at, backward_amount, Forward, Backward}
use Rattle.ways.specs.Sums.{price_sum}
use Rattle.ways.specs.Traces.{Picked, Outcome}
use Rattle.ways.specs.Ways.{Filled}
use Rattle.sweeps.specs.declared.priced.Priced.{Priced}

module _ {X A : Type 0} (t : Ghosts X A) (p : Priced) where
  -- a table of which a sweep has filled the rows of the steps up to k
  abbrev pub FilledTo : {Y : Type 0} → Directed Y → ℕ → List A → Type 0
  FilledTo h k out = Filled t h (places_of p.chart.now) (arcs_of p.chart.now) (marked p.standing.now) (price_at p.prices.now) k out

  -- a table that holds at each node the joining over all standing partial plans from the root to it
  abbrev pub ForwardTable : List A → Type 0
  ForwardTable table = Forward t (places_of p.chart.now) (arcs_of p.chart.now) (marked p.standing.now) (price_at p.prices.now) table

  -- and here over those from it to the end
  abbrev pub BackwardTable : List A → Type 0
  BackwardTable table = Backward t (places_of p.chart.now) (arcs_of p.chart.now) (marked p.standing.now) (price_at p.prices.now) table

  -- the joining over all standing plans
  abbrev pub over_all : A
  over_all = backward_amount t (places_of p.chart.now) (arcs_of p.chart.now) (marked p.standing.now) (price_at p.prices.now) 1 0

  -- the smallest arc that attains the amount at node v of level k, where there is one
  abbrev pub PickedAt : ℕ → ℕ → Option ℕ → Type 0
  PickedAt k v picked = Picked t (places_of p.chart.now) (arcs_of p.chart.now) (marked p.standing.now) (price_at p.prices.now) k v picked

  -- what a trace answers, and what it leaves in the buffer
  abbrev pub TracedInto : List ℕ → List ℕ → Bool → Type 0
  TracedInto old new found = Outcome t (places_of p.chart.now) (arcs_of p.chart.now) (marked p.standing.now) (price_at p.prices.now) old new found

-- the first of the standing plans with the least sum of prices
abbrev pub least_of : Priced → Option (List ℕ)
least_of p = cheapest (price_sum (price_at p.prices.now)) (standing (places_of p.chart.now) (arcs_of p.chart.now) (marked p.standing.now))
