-- Sets of routes, each given by the number whose bits are set for its routes. Assumes nothing.
use Rattle.std.specs.Prelude.{ℕ, zero, suc, ◌/◌, ◌%◌, ◌^◌, Bool, cond, List, [], ◌∷◌, ◌++◌, Ok, Err, Result, ◌==◌, bit_or, nat_le}
use Rattle.terms.specs.declared.refusal.Refusal.{Refusal}
use Rattle.terms.specs.declared.refusal.Refusal.TheVariants.{RouteRange}

-- whether route q is in the set
abbrev pub in_set : ℕ → ℕ → Bool
in_set bits q = (bits / 2 ^ q) % 2 == 1

-- the routes of the set below q, in rising order
unfoldable pub members : ℕ → ℕ → List ℕ
members bits zero = []
members bits (suc q) = members bits q ++ cond (in_set bits q) (q ∷ []) []

-- the routes of the set, in rising order
abbrev pub routes_of : ℕ → List ℕ
routes_of bits = members bits 64

-- the set with a route put in; a number above 63 is no route's and changes nothing
abbrev pub with_route : ℕ → ℕ → ℕ
with_route bits route = cond (nat_le route 63) (bit_or bits (2 ^ route)) bits

-- what putting a route into a set answers: a route above 63 is refused
abbrev pub accepted : ℕ → Result (Unit {0}) Refusal
accepted route = cond (nat_le route 63) (Ok tt) (Err RouteRange)
