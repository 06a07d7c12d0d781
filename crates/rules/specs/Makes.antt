-- The rules of each make of bank. Assumes nothing.
use Rattle.std.specs.Prelude.{ℕ, ◌+◌, ◌-◌, ◌*◌, Bool, cond, ◌&&◌, List, [], ◌∷◌, map, length, ℤ, pos, neg_ℤ, Some, None, Option, ◌==◌, nat_lt, slice_index_or}
use Rattle.std.specs.Int.{int_max, int_min}
use Rattle.terms.specs.declared.rule.Sense.TheVariants.{AtMost, Exactly}
use Rattle.terms.specs.Routes.{in_set, members, routes_of}
use Rattle.rules.specs.declared.order.Precedence.{Precedence}
use Rattle.rules.specs.declared.pair.Side.{Side}
use Rattle.rules.specs.declared.pair.Side.TheVariants.{Left, Right}
use Rattle.rules.specs.Rules.{Rule}

-- exactly one test of route q: it weighs 1 at every place, any other route 0
abbrev pub once_rule : ℕ → Rule
once_rule q = record { sense = Exactly; limit = pos 1; weight = λ place route. cond (route == q) (pos 1) (pos 0) }

-- a rule for each route of a set, in rising order
abbrev pub once_rules : ℕ → List Rule
once_rules bits = map once_rule (routes_of bits)

-- whether a route of the set has n routes of the set below it
abbrev pub is_nth : ℕ → ℕ → ℕ → Bool
is_nth bits n route = in_set bits route && length (members bits route) == n

-- the place's number for the earlier route, minus that number for the later; 0 for a route that is both, and for any other
abbrev pub order_weight : Precedence → ℕ → ℕ → ℤ
order_weight e place route = cond (route == e.earlier) (cond (route == e.later) (pos 0) (pos place)) (cond (route == e.later) (neg_ℤ (pos place)) (pos 0))

-- at most -1: where each is tested once, the earlier route stands at a lower place than the later
abbrev pub order_rule : Precedence → Rule
order_rule e = record { sense = AtMost; limit = neg_ℤ (pos 1); weight = order_weight e }

-- a rule for each pair
abbrev pub order_rules : List Precedence → List Rule
order_rules es = map order_rule es

-- z, or the nearest of -n and n
abbrev pub clipped : ℕ → ℤ → ℤ
clipped n z = int_max (neg_ℤ (pos n)) (int_min z (pos n))

-- the table's entry for a place and a route, 0 past its end, or the nearest bound
abbrev pub budget_weight : List ℤ → ℕ → ℕ → ℤ
budget_weight table place route = clipped 10000 (slice_index_or table (64 * (place - 1) + route) (pos 0))

-- at most the limit, or the nearest bound
abbrev pub budget_rule : ℤ → List ℤ → Rule
budget_rule limit table = record { sense = AtMost; limit = clipped 1000000 limit; weight = budget_weight table }

-- that rule alone
abbrev pub budget_rules : ℤ → List ℤ → List Rule
budget_rules limit table = budget_rule limit table ∷ []

-- which of two banks has a rule of their pair, and its number there, where the left one answers the count n; a rule above 128 is never asked
abbrev pub side_of : ℕ → ℕ → Option Side
side_of r n = cond (nat_lt r n) (Some (Left r)) (cond (nat_lt 128 r) None (Some (Right (r - n))))
