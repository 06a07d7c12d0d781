-- Sums over the numbers below n, and the parts that each rule has in an arc's price and in the limits' share. Assumes
-- nothing.
use Rattle.std.specs.Prelude.{ℕ, zero, suc, List, get_or, ℤ, pos, ◌+ℤ◌, ◌*ℤ◌, neg_ℤ, slice_index_or}
use Rattle.rules.specs.Rules.{Rule, no_rule}

-- f 0 + .. + f (n - 1)
abbrev pub sum_to : (ℕ → ℤ) → ℕ → ℤ
sum_to f zero = pos 0
sum_to f (suc n) = sum_to f n +ℤ f n

-- rule r's multiplier × its weight at a place and route
abbrev pub worth_of : List Rule → List ℤ → ℕ → ℕ → ℕ → ℤ
worth_of us zs place route r = slice_index_or zs r (pos 0) *ℤ (get_or us r no_rule).weight place route

-- minus rule r's multiplier × its limit
abbrev pub owed_of : List Rule → List ℤ → ℕ → ℤ
owed_of us zs r = neg_ℤ (slice_index_or zs r (pos 0) *ℤ (get_or us r no_rule).limit)
