-- What a draft and a sealed chart stand for, and the calls on a draft: when each is refused, what it answers and
-- what it leaves. Assumes nothing.
use Rattle.std.specs.Prelude.{ℕ, Bool, cond, not, ◌&&◌, ◌||◌, List, [], ◌∷◌, ◌++◌, length, take, Some, None, Ok, Option, ◌==◌, nat_le, nat_lt}
use Rattle.terms.specs.declared.arc.Arc.{Arc}
use Rattle.terms.specs.declared.arc.NewArc.{NewArc}
use Rattle.terms.specs.declared.refusal.Refusal.{Refusal}
use Rattle.terms.specs.declared.refusal.Refusal.TheVariants.{PlacesRange, PlacesLate, PlaceRange, NodeRange, RouteRange, MinutesRange, ArcsFull}
use Rattle.terms.specs.Refusals.{when, earliest, Outcome, decided}
use Rattle.plans.specs.Arcs.{arc_at}
use Rattle.charts.specs.declared.chart.ArcTable.{ArcTable}
use Rattle.charts.specs.declared.chart.Draft.{Draft}
use Rattle.charts.specs.declared.chart.Chart.{Chart}

-- a number of places, and arcs in the order in which they were drafted
pub record Layout : Type 0 where
  pub places : ℕ
  pub arcs : List Arc

-- the arcs of a table that are in use
abbrev pub used : ArcTable → List Arc
used t = take t.count t.at

abbrev pub places_of : Chart → ℕ
places_of c = c.places

abbrev pub arcs_of : Chart → List Arc
arcs_of c = used c.table

abbrev pub draft_of : Draft → Layout
draft_of d = record { places = places_of d.chart; arcs = arcs_of d.chart }

-- a new draft has one place and no arcs
abbrev pub new_draft : Layout
new_draft = record { places = 1; arcs = [] }

abbrev pub none_of : List Arc → Bool
none_of arcs = length arcs == 0

-- places: a number from 1 to 32, before any arc
abbrev pub places_rows : Layout → ℕ → Option Refusal
places_rows d n = earliest (
    when (not (nat_le 1 n && nat_le n 32)) PlacesRange
    ∷ (when (not (none_of d.arcs)) PlacesLate
    ∷ []))

abbrev pub on_places : Layout → ℕ → Outcome Layout ℕ
on_places d n = decided d (places_rows d n) (record { answer = Ok n; left = record { places = n; arcs = d.arcs } })

-- a node above 31, or not 0 at the root or the end
abbrev pub off_nodes : ℕ → NewArc → Bool
off_nodes n x =
    (nat_lt 31 x.start || nat_lt 31 x.end)
    || ((x.place == 1 && not (x.start == 0)) || (x.place == n && not (x.end == 0)))

-- arc
abbrev pub arc_rows : Layout → NewArc → Option Refusal
arc_rows d x = earliest (
    when (not (nat_le 1 x.place && nat_le x.place d.places)) PlaceRange
    ∷ (when (off_nodes d.places x) NodeRange
    ∷ (when (nat_lt 63 x.route) RouteRange
    ∷ (when (nat_lt 10000 x.minutes) MinutesRange
    ∷ (when (nat_le 1024 (length d.arcs)) ArcsFull
    ∷ [])))))

abbrev pub as_arc : NewArc → Arc
as_arc x = record { place = x.place; start = x.start; end = x.end; route = x.route; minutes = x.minutes }

-- an accepted arc comes last and has the number of arcs before it
abbrev pub on_arc : Layout → NewArc → Outcome Layout ℕ
on_arc d x = decided d (arc_rows d x) (record { answer = Ok (length d.arcs); left = record { places = d.places; arcs = d.arcs ++ as_arc x ∷ [] } })

-- the arc of a number, where there is one
abbrev pub arc_numbered : List Arc → ℕ → Option Arc
arc_numbered arcs a = cond (nat_lt a (length arcs)) (Some (arc_at arcs a)) None
