-- What a rule is, and what a bank answers of its list of rules. Assumes nothing.
use Rattle.std.specs.Prelude.{◌≡◌, ℕ, ◌<◌, min, Bool, true, cond, ◌&&◌, List, length, get_or, ℤ, pos, neg_ℤ, ◌≤ℤ◌, Some, None, Option, nat_le, nat_lt, slice_index_or}
use Rattle.terms.specs.declared.rule.Sense.{Sense}
use Rattle.terms.specs.declared.rule.Sense.TheVariants.{AtMost}
use Rattle.terms.specs.declared.rule.Head.{Head}

-- a rule: its sense, its limit, and its weight at each place and route
pub record Rule : Type 0 where
  pub sense : Sense
  pub limit : ℤ
  pub weight : ℕ → ℕ → ℤ

-- stands past the end of a list of rules
abbrev pub no_rule : Rule
no_rule = record { sense = AtMost; limit = pos 0; weight = λ place route. pos 0 }

-- the number of rules, or 129 where there are more than 128
abbrev pub counted : List Rule → ℕ
counted rs = min (length rs) 129

-- a rule without its weights
abbrev pub head_in : Rule → Head
head_in u = record { sense = u.sense; limit = u.limit }

-- the head of rule r, where r is below the count
abbrev pub head_of : List Rule → ℕ → Option Head
head_of rs r = cond (nat_lt r (counted rs)) (Some (head_in (slice_index_or rs r no_rule))) None

-- a place from 1 to 32 and a route from 0 to 63
abbrev pub on_grid : ℕ → ℕ → Bool
on_grid place route = nat_le 1 place && nat_le place 32 && nat_le route 63

-- the weight of rule r, where r is below the count and the place and the route are on the grid
abbrev pub weight_of : List Rule → ℕ → ℕ → ℕ → Option ℤ
weight_of rs r place route = cond (nat_lt r (counted rs) && on_grid place route) (Some ((get_or rs r no_rule).weight place route)) None

-- from -n to n
abbrev pub Within : ℕ → ℤ → Type 0
Within n z = (neg_ℤ (pos n) ≤ℤ z) × (z ≤ℤ pos n)

-- a limit from -1,000,000 to 1,000,000, and weights from -10,000 to 10,000
pub record RuleInRange (u : Rule) : Type 0 where
  pub limit : Within 1000000 u.limit
  pub weight : (place route : ℕ) → on_grid place route ≡ true → Within 10000 (u.weight place route)

-- each rule of a list
abbrev pub InRange : List Rule → Type 0
InRange rs = (r : ℕ) → r < length rs → RuleInRange (slice_index_or rs r no_rule)
