-- The mark lies above 1000 times every cost below the claim, and not above 1000 times any other. Assumes nothing.
use Rattle.std.proofs.Common.{ℕ, ◌*◌, ◌<◌, ◌≤◌, List, ℤ, pos, ◌≤ℤ◌, ◌<ℤ◌, arith}
use Rattle.std.proofs.lemmas.Int.{ints}
use Rattle.rules.specs.Lawful.{Problem, Lawful, cost_of}
use Rattle.amounts.specs.Multipliers.{Fair}
use Rattle.amounts.specs.Amounts.{amount}
use Rattle.amounts.proofs.Priced.{never_overpriced}
use Rattle.judging.specs.Cases.{mark}

-- these two are all that is used of the mark
pub mark_over : (c k : ℕ) → k < c → pos (1000 * k) <ℤ mark c
mark_over c k h = omega (arith, ints)

pub mark_under : (c k : ℕ) → c ≤ k → mark c ≤ℤ pos (1000 * k)
mark_under c k h = omega (arith, ints)

-- at fair multipliers a lawful plan that costs less than the claim is priced below the mark
pub below_mark : (t : Problem) (zs : List ℤ) (p : List ℕ) (c : ℕ) → Fair t.rules zs → Lawful t p → cost_of t p < c → amount t zs p <ℤ mark c
below_mark t zs p c f l h = chain (amount t zs p) (pos (1000 * cost_of t p)) (mark c) (never_overpriced t zs f p l) (mark_over c (cost_of t p) h)
  where
    chain : (x y z : ℤ) → x ≤ℤ y → y <ℤ z → x <ℤ z
    chain x y z h k = omega (arith, ints)
