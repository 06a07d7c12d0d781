-- The laws of priced amounts. Assumes nothing.
use Rattle.std.specs.Prelude.{◌≡◌, ℕ, ◌*◌, ◌<◌, ◌≤◌, List, length, ℤ, pos, ◌+ℤ◌, ◌≤ℤ◌, unsigned_abs}
use Rattle.plans.specs.Arcs.{arc_at, Sealed}
use Rattle.plans.specs.Plans.{Plan}
use Rattle.rules.specs.Rules.{InRange}
use Rattle.rules.specs.Lawful.{Problem, Lawful, cost_of}
use Rattle.amounts.specs.Multipliers.{Fair}
use Rattle.amounts.specs.Amounts.{amount, owed, arc_price, price_sum}

-- for every problem and all multipliers, the priced amount of a list of arcs is the sum of the arcs' prices and the
-- limits' share: the limits enter once, however many arcs there are
abbrev pub PricedBySum : Type 0
PricedBySum = (t : Problem) (zs : List ℤ) (p : List ℕ) → amount t zs p ≡ price_sum t zs p +ℤ owed t.rules zs

-- at fair multipliers a lawful plan is never priced above 1000 × its cost
abbrev pub NeverOverpriced : Type 0
NeverOverpriced = (t : Problem) (zs : List ℤ) → Fair t.rules zs → (p : List ℕ) → Lawful t p → amount t zs p ≤ℤ pos (1000 * cost_of t p)

-- how large an arc's price, the limits' share and a plan's priced amount may be, whatever their signs
pub record Small (t : Problem) (zs : List ℤ) : Type 0 where
  pub price : (a : ℕ) → a < length t.arcs → unsigned_abs (arc_price t.rules zs (arc_at t.arcs a)) ≤ 1_280_000_010_000_000
  pub share : unsigned_abs (owed t.rules zs) ≤ 128_000_000_000_000_000
  pub amount : (p : List ℕ) → Plan t.places t.arcs p → unsigned_abs (amount t zs p) < 200_000_000_000_000_000

-- so it is on every sealed chart, for at most 128 rules in range, at fair multipliers
abbrev pub AmountsSmall : Type 0
AmountsSmall = (t : Problem) → Sealed t.places t.arcs → InRange t.rules → length t.rules ≤ 128 → (zs : List ℤ) → Fair t.rules zs → Small t zs
