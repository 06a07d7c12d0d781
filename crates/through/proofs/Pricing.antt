-- The amounts of standing plans, from the prices of the standing arcs and the limits' share. Assumes nothing.
use Rattle.std.proofs.Common.{◌≡◌, ℕ, suc, ◌*◌, ◌<◌, ◌≤◌, Bool, true, false, cond, ◌&&◌, ltb, List, [], ◌∷◌, length, ℤ, pos, ◌+ℤ◌, nat_abs, Option, sym, refl, ap, ◌∙◌, subst, ap₂, inl, inr, arith}
use Rattle.std.proofs.lemmas.Bool.{and_parts, and_from, lt-ltb, le-ltb, ltb-true, cond-true, cases_lt}
use Rattle.terms.specs.declared.arc.Arc.{Arc}
use Rattle.plans.specs.Arcs.{arc_at, Sealed}
use Rattle.plans.specs.Plans.{Path, In}
use Rattle.plans.specs.Cases.{Case, stands, standing}
use Rattle.plans.specs.Firsts.{cheapest, amount_in}
use Rattle.plans.proofs.Steps.{next_there}
use Rattle.plans.proofs.Standing.{in_stands}
use Rattle.rules.specs.Rules.{Rule, InRange}
use Rattle.amounts.specs.Amounts.{amount, owed, arc_price, price_sum as prices_of}
use Rattle.amounts.proofs.Exchange.{priced_by_sum}
use Rattle.amounts.proofs.Sizes.{price_size, owed_size, arc_grid}
use Rattle.tallies.specs.Laws.{wide, steep}
use Rattle.tallies.specs.Kinds.{least_extend, least_size}
use Rattle.tallies.specs.Sorts.{least_lawful}
use Rattle.ways.specs.Amounts.{marked, price_at, Sweepable}
use Rattle.ways.specs.Sums.{price_sum, leasts}
use Rattle.ways.proofs.Firsts.{least_standing}
use Rattle.ways.proofs.Levels.{root_node, amount_narrow}
use Rattle.through.specs.Pricings.{problem, Priceable, AllGridded, standing_price}
use Rattle.through.proofs.Passed.{passed, passed_is}
use Rattle.through.proofs.Minima.{cheapest_shift, amount_shift}

-- the arcs of a sealed chart are on the grid
pub sealed_gridded : (n : ℕ) (arcs : List Arc) → Sealed n arcs → AllGridded arcs
sealed_gridded n arcs sealed a l = record { placed = arc_grid n arcs sealed a l; short = (sealed.arc a l).ranged.1 }

-- no share is too large
pub share_small : (us : List Rule) (zs : List ℤ) → Priceable us zs → InRange us → nat_abs (owed us zs) < wide
share_small us zs asked range = omega (arith, owed_size us zs range asked.fair asked.few)

module _ (n : ℕ) (arcs : List Arc) (us : List Rule) (zs : List ℤ) (s : Case) where
  -- the price of an arc that is there and stands
  price_there : (a : ℕ) → a < length arcs → s a ≡ true → standing_price us zs arcs s a ≡ arc_price us zs (arc_at arcs a)
  price_there a l e = cond-true (ltb a (length arcs) && s a) (arc_price us zs (arc_at arcs a)) (pos 0) (and_from _ _ (lt-ltb a (length arcs) l) e)

  -- no price is too large
  pub price_small : Priceable us zs → InRange us → AllGridded arcs → (a : ℕ) → nat_abs (standing_price us zs arcs s a) ≤ steep
  price_small asked range fit a = by (ltb a (length arcs) && s a) refl
    where
      by : (b : Bool) → (ltb a (length arcs) && s a) ≡ b → nat_abs (cond b (arc_price us zs (arc_at arcs a)) (pos 0)) ≤ steep
      by true e =
          let x = fit a (ltb-true a (length arcs) (and_parts (ltb a (length arcs)) (s a) e).0) in
          price_size us zs range asked.fair asked.few (arc_at arcs a) x.placed x.short
      by false e = omega arith

  module _ (price : ℕ → ℤ) (filled : (a : ℕ) → price a ≡ standing_price us zs arcs s a) where
    -- the prices of a standing plan are those of its arcs
    sum_is : (p : List ℕ) (k v : ℕ) → Path arcs k v p → stands s p ≡ true → price_sum price p ≡ prices_of (problem n arcs us) zs p
    sum_is [] k v h st = refl
    sum_is (a ∷ p) k v h st =
        let r = and_parts (s a) (stands s p) st in
        ap₂ ◌+ℤ◌ (filled a ∙ price_there a (next_there arcs k v a h.0) r.0) (sum_is p (suc k) (arc_at arcs a).end h.1 r.1)

    -- the amount of a standing plan is the sum of its prices and the share
    pub amount_is : (p : List ℕ) → In p (standing n arcs s) → amount (problem n arcs us) zs p ≡ price_sum price p +ℤ owed us zs
    amount_is p m =
        let st = in_stands n arcs s p m in
        priced_by_sum (problem n arcs us) zs p ∙ ap (λ x. x +ℤ owed us zs) (sym (sum_is p 1 0 st.plan.path st.all))

    -- the plan with the least sum of prices is the one with the least amount
    pub plan_is : cheapest (price_sum price) (standing n arcs s) ≡ cheapest (amount (problem n arcs us) zs) (standing n arcs s)
    plan_is = cheapest_shift (price_sum price) (amount (problem n arcs us) zs) (owed us zs) (standing n arcs s) amount_is

    -- the least amount is the least sum of prices and, once, the share
    pub least_is : least_extend (amount_in (price_sum price) (cheapest (price_sum price) (standing n arcs s))) (owed us zs) ≡ amount_in (amount (problem n arcs us) zs) (cheapest (amount (problem n arcs us) zs) (standing n arcs s))
    least_is = amount_shift (price_sum price) (amount (problem n arcs us) zs) (owed us zs) (standing n arcs s) amount_is

-- the least sum of prices is not too large
pub least_small : (n : ℕ) (arcs : List Arc) → Sealed n arcs → (s : Case) (price : ℕ → ℤ) → ((a : ℕ) → nat_abs (price a) ≤ steep) → least_size (amount_in (price_sum price) (cheapest (price_sum price) (standing n arcs s))) < wide
least_small n arcs sealed s price small =
    subst (λ (o : Option ℤ). least_size o < wide) (least_standing price n arcs s) (amount_narrow leasts least_lawful n arcs sealed s price small 1 0 (root_node n arcs sealed))

-- prices filled in arc by arc are those of the standing arcs
pub filled_in : (us : List Rule) (zs : List ℤ) (arcs : List Arc) (s : Case) (price : ℕ → ℤ) → ((a : ℕ) → a < length arcs → price a ≡ cond (s a) (arc_price us zs (arc_at arcs a)) (pos 0)) → ((a : ℕ) → length arcs ≤ a → price a ≡ pos 0) → (a : ℕ) → price a ≡ standing_price us zs arcs s a
filled_in us zs arcs s price done rest a = elim (cases_lt a (length arcs)) [
  | inl l ↦ done a l ∙ ap (λ b. cond (b && s a) (arc_price us zs (arc_at arcs a)) (pos 0)) (sym (lt-ltb a (length arcs) l))
  | inr h ↦ rest a h ∙ ap (λ b. cond (b && s a) (arc_price us zs (arc_at arcs a)) (pos 0)) (sym (le-ltb a (length arcs) h))
]

-- with them a chart can be swept
pub sweepable : (n : ℕ) (arcs : List Arc) → Sealed n arcs → (us : List Rule) (zs : List ℤ) → Priceable us zs → InRange us → (on : List Bool) → length arcs ≤ length on → (prices : List ℤ) → length prices ≡ 1024 → ((a : ℕ) → price_at prices a ≡ standing_price us zs arcs (marked on) a) → Sweepable arcs on prices
sweepable n arcs sealed us zs asked range on marks prices long filled = record {
  marks = marks;
  priced = omega (arith, sealed.count);
  small = λ a. subst (λ z. nat_abs z ≤ steep) (sym (filled a)) (price_small n arcs us zs (marked on) asked range (sealed_gridded n arcs sealed) a);
}

-- what they serve for
module _ (n : ℕ) (arcs : List Arc) (sealed : Sealed n arcs) (us : List Rule) (zs : List ℤ) (on : List Bool) (prices : List ℤ) (small : (a : ℕ) → nat_abs (price_at prices a) ≤ steep) (filled : (a : ℕ) → price_at prices a ≡ standing_price us zs arcs (marked on) a) (x : Option ℤ) (is : x ≡ amount_in (price_sum (price_at prices)) (cheapest (price_sum (price_at prices)) (standing n arcs (marked on)))) where
  -- a least sum that is not too large
  pub sum_small : least_size x < 3 * wide
  sum_small =
      let h = subst (λ (o : Option ℤ). least_size o < wide) (sym is) (least_small n arcs sealed (marked on) (price_at prices) small) in
      omega arith

  -- and the least amount, which is that sum and the share
  pub with_share : (z : ℤ) → z ≡ owed us zs → nat_abs z < wide → least_extend x (passed z) ≡ amount_in (amount (problem n arcs us) zs) (cheapest (amount (problem n arcs us) zs) (standing n arcs (marked on)))
  with_share z e narrow =
      ap (least_extend x) (passed_is z narrow ∙ e)
      ∙ ap (λ (o : Option ℤ). least_extend o (owed us zs)) is
      ∙ least_is n arcs us zs (marked on) (price_at prices) filled
