-- Arcs and their ranges, and what is known of a sealed chart's. Assumes nothing.
use Rattle.std.specs.Prelude.{◌≡◌, ℕ, ◌<◌, ◌≤◌, List, length, slice_index_or}
use Rattle.terms.specs.declared.arc.Arc.{Arc}

-- stands past the end of a chart's arcs, at no place
abbrev pub no_arc : Arc
no_arc = record { place = 0; start = 0; end = 0; route = 0; minutes = 0 }

-- the arc of a number
abbrev pub arc_at : List Arc → ℕ → Arc
arc_at arcs a = slice_index_or arcs a no_arc

-- of one of the places 1 to n
abbrev pub OnPlace : ℕ → Arc → Type 0
OnPlace n x = (1 ≤ x.place) × (x.place ≤ n)

-- from and to one of the nodes 0 to 31
abbrev pub OnNodes : Arc → Type 0
OnNodes x = (x.start < 32) × (x.end < 32)

-- the first level has only node 0, the root
abbrev pub AtRoot : Arc → Type 0
AtRoot x = x.place ≡ 1 → x.start ≡ 0

-- the last level has only node 0, the end
abbrev pub AtEnd : ℕ → Arc → Type 0
AtEnd n x = x.place ≡ n → x.end ≡ 0

-- a route 0 to 63, and at most 10,000 minutes
abbrev pub InRange : Arc → Type 0
InRange x = (x.route < 64) × (x.minutes ≤ 10000)

-- an arc of a chart of n places
pub record ArcInRange (n : ℕ) (x : Arc) : Type 0 where
  pub placed : OnPlace n x
  pub noded : OnNodes x
  pub rooted : AtRoot x
  pub ended : AtEnd n x
  pub ranged : InRange x

-- a sealed chart: 1 to 32 places, at most 1,024 arcs, each in range
pub record Sealed (n : ℕ) (arcs : List Arc) : Type 0 where
  pub some : 1 ≤ n
  pub few : n ≤ 32
  pub count : length arcs ≤ 1024
  pub arc : (a : ℕ) → a < length arcs → ArcInRange n (arc_at arcs a)
