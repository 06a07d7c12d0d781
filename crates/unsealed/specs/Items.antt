-- What the items of a form name: a set of routes, and the entries of a table. Assumes nothing.
use Rattle.std.specs.Prelude.{ℕ, ◌+◌, ◌-◌, ◌*◌, Bool, cond, not, ◌&&◌, List, [], ◌∷◌, ℤ, Ok, Err, Result, ◌==◌, nat_le, nat_lt, slice_set}
use Rattle.std.specs.List.{list_any}
use Rattle.terms.specs.declared.refusal.Refusal.{Refusal}
use Rattle.terms.specs.declared.refusal.Refusal.TheVariants.{RouteRange}
use Rattle.terms.specs.declared.routes.RouteSet.{RouteSet}
use Rattle.terms.specs.Routes.{with_route}

-- whether a number is no route's
abbrev pub no_route : ℕ → Bool
no_route q = nat_lt 63 q

-- a set of routes, with the routes of a list put in one after another
abbrev pub gathered : ℕ → List ℕ → ℕ
gathered bits [] = bits
gathered bits (q ∷ qs) = gathered (with_route bits q) qs

-- the set of the routes of a list
abbrev pub set_of : List ℕ → ℕ
set_of qs = gathered 0 qs

-- a set of routes, by the number of its bits
abbrev pub as_set : ℕ → RouteSet
as_set bits = record { bits = bits }

-- the set that a list of routes names, unless one is above 63
abbrev pub routes_read : List ℕ → Result RouteSet Refusal
routes_read qs = cond (list_any no_route qs) (Err RouteRange) (Ok (as_set (set_of qs)))

-- whether an entry (place, route, weight) names a place outside 1 to n
abbrev pub place_outside : ℕ → ℕ × ℕ × ℤ → Bool
place_outside n x = not (nat_le 1 x.0 && nat_le x.0 n)

-- whether an entry names a route above 63
abbrev pub route_outside : ℕ × ℕ × ℤ → Bool
route_outside x = no_route x.1

-- where the weight of a place and a route stands in a table
abbrev pub entry_of : ℕ → ℕ → ℕ
entry_of place route = 64 * (place - 1) + route

-- a table, with entries written into it one after another
abbrev pub stored : List ℤ → List (ℕ × ℕ × ℤ) → List ℤ
stored table [] = table
stored table (x ∷ xs) = stored (slice_set table (entry_of x.0 x.1) x.2) xs

-- the weight that the last entry for a place and a route names, or w where there is none
abbrev pub last_weight : List (ℕ × ℕ × ℤ) → ℕ → ℕ → ℤ → ℤ
last_weight [] place route w = w
last_weight (x ∷ xs) place route w = last_weight xs place route (cond (x.0 == place && x.1 == route) x.2 w)
