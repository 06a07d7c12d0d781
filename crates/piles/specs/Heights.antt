-- The cases that marks and split records stand for. Assumes nothing.
use Rattle.std.specs.Prelude.{ℕ, zero, suc, Bool, false, cond, not, ◌&&◌, ◌||◌, List, [], ◌∷◌, length, ◌==◌, nat_lt, slice_index, slice_index_or}
use Rattle.terms.specs.declared.arc.Arc.{Arc}
use Rattle.terms.specs.Routes.{in_set}
use Rattle.plans.specs.Arcs.{arc_at}
use Rattle.plans.specs.Cases.{Case}
use Rattle.judging.specs.Cases.{outside}
use Rattle.piles.specs.declared.pile.Split.{Split}
use Rattle.piles.specs.declared.pile.Side.{Side}
use Rattle.piles.specs.declared.pile.Side.TheVariants.{Inside, Outside}

-- stands past the end of a table of records
abbrev pub no_split : Split
no_split = record { place = 0; routes = record { bits = 0 } }

abbrev pub split_at : List Split → ℕ → Split
split_at splits i = slice_index_or splits i no_split

-- the arcs that had not left when the case of height i was made, and have not left below it: no mark, or a higher one
abbrev pub stands_at : List Arc → List ℕ → ℕ → Case
stands_at arcs marks i a = nat_lt a (length arcs) && (slice_index marks a == 0 || nat_lt i (slice_index marks a))

-- what the record of a height keeps: at its place, only the routes outside its set
abbrev pub left_by : List Arc → Split → Case → Case
left_by arcs x s = outside arcs x.place x.routes.bits s

-- the cases of the heights from i down to 1, all under others
abbrev pub cases_under : List Arc → List ℕ → List Split → ℕ → List Case
cases_under arcs marks splits zero = []
cases_under arcs marks splits (suc i) = left_by arcs (split_at splits i) (stands_at arcs marks (suc i)) ∷ cases_under arcs marks splits i

-- the cases of a pile of a height, the working case first
abbrev pub cases_of : List Arc → List ℕ → List Split → ℕ → List Case
cases_of arcs marks splits zero = []
cases_of arcs marks splits (suc i) = stands_at arcs marks (suc i) ∷ cases_under arcs marks splits i

-- whether a route is on one side of a set, by whether it is in the set
abbrev pub on_side : Side → Bool → Bool
on_side Inside inn = inn
on_side Outside inn = not inn

-- arc a, whose mark is m, is one of the chart's, stands in the working case, and is of place k with a route on one side of
-- a set
abbrev pub sided : List Arc → ℕ → ℕ → Side → ℕ → ℕ → Bool
sided arcs k routes side a m =
    nat_lt a (length arcs) && (m == 0 && ((arc_at arcs a).place == k && on_side side (in_set routes (arc_at arcs a).route)))

-- the mark after all such arcs are given a height
abbrev pub cut_mark : List Arc → ℕ → ℕ → Side → ℕ → ℕ → ℕ → ℕ
cut_mark arcs k routes side height a m = cond (sided arcs k routes side a m) height m

-- the mark after the marks of one height are taken away
abbrev pub lift_mark : ℕ → ℕ → ℕ
lift_mark height m = cond (m == height) 0 m

-- the mark after those arcs that stand and are not kept are given a height
abbrev pub keep_mark : ℕ → List Bool → ℕ → ℕ → ℕ → ℕ
keep_mark count keep height a m = cond (nat_lt a count && (m == 0 && not (slice_index_or keep a false))) height m
