-- No product, sum, price or amount is past its bound. Assumes nothing.
use Rattle.std.proofs.Common.{◌≡◌, ℕ, zero, suc, ◌+◌, ◌*◌, ◌^◌, ◌<◌, ◌≤◌, true, List, [], ◌∷◌, length, get_or, ℤ, pos, negsuc, ◌+ℤ◌, ◌*ℤ◌, neg_ℤ, nat_abs, refl, suc-mul, mul-le-mul, arith, w64, SFits}
use Rattle.std.proofs.lemmas.Int.{ints}
use Rattle.std.proofs.lemmas.Bool.{and_from, le-leb}
use Rattle.terms.specs.declared.arc.Arc.{Arc}
use Rattle.plans.specs.Arcs.{arc_at, Sealed}
use Rattle.plans.specs.Plans.{Path}
use Rattle.plans.proofs.Steps.{next_there}
use Rattle.rules.specs.Rules.{Rule, no_rule, Within, InRange, on_grid}
use Rattle.rules.specs.Lawful.{Problem}
use Rattle.amounts.specs.Multipliers.{Fair}
use Rattle.amounts.specs.Amounts.{worth, owed, arc_price, price_sum}
use Rattle.amounts.specs.Sums.{sum_to, worth_of, owed_of}
use Rattle.amounts.specs.Laws.{AmountsSmall}
use Rattle.amounts.proofs.Exchange.{priced_by_sum}
use Rattle.amounts.proofs.Lowest.{fair_length, fair_at, fair_size}
use Rattle.amounts.proofs.Sums.{worth_sum, owed_sum}

pub neg_size : (a : ℤ) → nat_abs (neg_ℤ a) ≡ nat_abs a
neg_size (pos zero) = refl
neg_size (pos (suc n)) = refl
neg_size (negsuc n) = refl

pub product_size_is : (a b : ℤ) → nat_abs (a *ℤ b) ≡ nat_abs a * nat_abs b
product_size_is (pos a) (pos b) = refl
product_size_is (pos a) (negsuc b) = neg_size (pos (a * suc b))
product_size_is (negsuc a) (pos b) = neg_size (pos (suc a * b))
product_size_is (negsuc a) (negsuc b) = refl

pub product_size : (a b : ℤ) (x y : ℕ) → nat_abs a ≤ x → nat_abs b ≤ y → nat_abs (a *ℤ b) ≤ x * y
product_size a b x y p q = rw (product_size_is a b) (mul-le-mul p q)

pub add_size : (a b : ℤ) → nat_abs (a +ℤ b) ≤ nat_abs a + nat_abs b
add_size a b = omega (arith, ints)

-- a number of known size fits 64 bits
pub fits : (z : ℤ) (n : ℕ) → nat_abs z ≤ n → n < 2 ^ 63 → SFits w64 z
fits (pos m) n h l = record { sfits = omega arith }
fits (negsuc m) n h l = record { sfits = omega arith }

pub within_size : (n : ℕ) (z : ℤ) → Within n z → nat_abs z ≤ n
within_size n z w = omega (arith, ints, w.0, w.1)

-- a sum of n numbers, each at most b in size
pub sum_size : (f : ℕ → ℤ) (b n : ℕ) → ((r : ℕ) → r < n → nat_abs (f r) ≤ b) → nat_abs (sum_to f n) ≤ n * b
sum_size f b zero h = omega arith
sum_size f b (suc n) h =
    omega (arith, add_size (sum_to f n) (f n), sum_size f b n (λ r l. h r (omega arith)), h n (omega arith), suc-mul n b)

-- a place from 1 to 32 and a route from 0 to 63
pub on_grid_lem : (place route : ℕ) → 1 ≤ place → place ≤ 32 → route ≤ 63 → on_grid place route ≡ true
on_grid_lem place route a b c = and_from _ _ (and_from _ _ (le-leb 1 place a) (le-leb place 32 b)) (le-leb route 63 c)

-- the sizes of a chart's arcs, as far as prices need them
pub arc_grid : (n : ℕ) (arcs : List Arc) → Sealed n arcs → (a : ℕ) → a < length arcs → on_grid (arc_at arcs a).place (arc_at arcs a).route ≡ true
arc_grid n arcs s a l =
    let x = s.arc a l in
    on_grid_lem (arc_at arcs a).place (arc_at arcs a).route x.placed.0 (omega (arith, x.placed.1, s.few)) (omega (arith, x.ranged.0))

module _ (us : List Rule) (zs : List ℤ) (range : InRange us) (f : Fair us zs) where
  -- the multiplier of a rule
  pub multiplier_size : (r : ℕ) → r < length us → nat_abs (get_or zs r (pos 0)) ≤ 1_000_000_000
  multiplier_size r l = fair_size (get_or us r no_rule).sense (get_or zs r (pos 0)) (fair_at us zs f r l)

  -- one rule's parts
  pub worth_of_size : (place route r : ℕ) → on_grid place route ≡ true → r < length us → nat_abs (worth_of us zs place route r) ≤ 10_000_000_000_000
  worth_of_size place route r g l =
      product_size (get_or zs r (pos 0)) ((get_or us r no_rule).weight place route) 1_000_000_000 10_000 (multiplier_size r l) (within_size 10_000 _ ((range r l).weight place route g))

  pub owed_of_size : (r : ℕ) → r < length us → nat_abs (owed_of us zs r) ≤ 1_000_000_000_000_000
  owed_of_size r l =
      rw (neg_size (get_or zs r (pos 0) *ℤ (get_or us r no_rule).limit)) (product_size (get_or zs r (pos 0)) (get_or us r no_rule).limit 1_000_000_000 1_000_000 (multiplier_size r l) (within_size 1_000_000 _ (range r l).limit))

  -- the parts of the first n rules
  pub worth_front_size : (place route n : ℕ) → on_grid place route ≡ true → n ≤ length us → nat_abs (sum_to (worth_of us zs place route) n) ≤ n * 10_000_000_000_000
  worth_front_size place route n g l = sum_size (worth_of us zs place route) 10_000_000_000_000 n (λ r h. worth_of_size place route r g (omega arith))

  pub owed_front_size : (n : ℕ) → n ≤ length us → nat_abs (sum_to (owed_of us zs) n) ≤ n * 1_000_000_000_000_000
  owed_front_size n l = sum_size (owed_of us zs) 1_000_000_000_000_000 n (λ r h. owed_of_size r (omega arith))

  -- the price of an arc as far as the first n rules make it
  pub price_front_size : (x : Arc) (n : ℕ) → on_grid x.place x.route ≡ true → x.minutes ≤ 10_000 → n ≤ length us → nat_abs (pos (1000 * x.minutes) +ℤ sum_to (worth_of us zs x.place x.route) n) ≤ 10_000_000 + n * 10_000_000_000_000
  price_front_size x n g m l =
      omega (arith, add_size (pos (1000 * x.minutes)) (sum_to (worth_of us zs x.place x.route) n), worth_front_size x.place x.route n g l)

  module _ (few : length us ≤ 128) where
    -- what a place and a route are worth, and the limits' share
    pub worth_size : (place route : ℕ) → on_grid place route ≡ true → nat_abs (worth us zs place route) ≤ 1_280_000_000_000_000
    worth_size place route g =
        rw (worth_sum us zs place route (fair_length us zs f)) (omega (arith, worth_front_size place route (length us) g (omega arith)))

    pub owed_size : nat_abs (owed us zs) ≤ 128_000_000_000_000_000
    owed_size = rw (owed_sum us zs (fair_length us zs f)) (omega (arith, owed_front_size (length us) (omega arith)))

    -- an arc's price
    pub price_size : (x : Arc) → on_grid x.place x.route ≡ true → x.minutes ≤ 10_000 → nat_abs (arc_price us zs x) ≤ 1_280_000_010_000_000
    price_size x g m = omega (arith, add_size (pos (1000 * x.minutes)) (worth us zs x.place x.route), worth_size x.place x.route g)

    -- the sums over the first n rules fit 64 bits
    pub worth_front_fits : (place route n : ℕ) → on_grid place route ≡ true → n ≤ length us → SFits w64 (sum_to (worth_of us zs place route) n)
    worth_front_fits place route n g l = fits _ 1_280_000_000_000_000 (omega (arith, worth_front_size place route n g l)) (omega arith)

    pub price_front_fits : (x : Arc) (n : ℕ) → on_grid x.place x.route ≡ true → x.minutes ≤ 10_000 → n ≤ length us → SFits w64 (pos (1000 * x.minutes) +ℤ sum_to (worth_of us zs x.place x.route) n)
    price_front_fits x n g m l = fits _ 1_280_000_010_000_000 (omega (arith, price_front_size x n g m l)) (omega arith)

    pub owed_front_fits : (n : ℕ) → n ≤ length us → SFits w64 (sum_to (owed_of us zs) n)
    owed_front_fits n l = fits _ 128_000_000_000_000_000 (omega (arith, owed_front_size n l)) (omega arith)

-- the prices of some arcs of a chart
pub prices_size : (t : Problem) (zs : List ℤ) (b : ℕ) → ((a : ℕ) → a < length t.arcs → nat_abs (arc_price t.rules zs (arc_at t.arcs a)) ≤ b) → (k v : ℕ) (p : List ℕ) → Path t.arcs k v p → nat_abs (price_sum t zs p) ≤ length p * b
prices_size t zs b h k v [] w = omega arith
prices_size t zs b h k v (a ∷ p) w =
    let x = arc_at t.arcs a in
    omega (arith, add_size (arc_price t.rules zs x) (price_sum t zs p), h a (next_there t.arcs k v a w.0), prices_size t zs b h (suc k) x.end p w.1, suc-mul (length p) b)

-- every amount is below 2 × 10^17 in size
pub amounts_small : AmountsSmall
amounts_small t s range few zs f = record {
  price = price;
  share = owed_size t.rules zs range f few;
  amount = λ p h.
      rw (priced_by_sum t zs p) (sum_below (price_sum t zs p) (owed t.rules zs) (length p)
      (prices_size t zs 1_280_000_010_000_000 price 1 0 p h.path)
      (omega (arith, h.long, s.few))
      (owed_size t.rules zs range f few));
}
  where
    price : (a : ℕ) → a < length t.arcs → nat_abs (arc_price t.rules zs (arc_at t.arcs a)) ≤ 1_280_000_010_000_000
    price a l = price_size t.rules zs range f few (arc_at t.arcs a) (arc_grid t.places t.arcs s a l) (s.arc a l).ranged.1

    sum_below : (x y : ℤ) (n : ℕ) → nat_abs x ≤ n * 1_280_000_010_000_000 → n ≤ 32 → nat_abs y ≤ 128_000_000_000_000_000 → nat_abs (x +ℤ y) < 200_000_000_000_000_000
    sum_below x y n h l g = omega (arith, add_size x y)
