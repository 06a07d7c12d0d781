-- Where each arc's price is its minutes and all arcs stand, the cheapest standing plan is the cheapest plan. Assumes nothing.
use Rattle.std.proofs.Common.{◌≡◌, ℕ, suc, ◌<◌, ◌≤◌, Bool, true, false, cond, ◌⊎◌, List, [], ◌∷◌, length, get_or, ℤ, pos, nat_abs, Some, None, Option, sym, refl, ap, ◌∙◌, subst, inl, inr, ⊎_elim, arith}
use lib.Signed.{lt_z}
use Rattle.std.proofs.lemmas.Bool.{cases_lt}
use Rattle.terms.specs.declared.arc.Arc.{Arc}
use Rattle.plans.specs.Arcs.{arc_at, Sealed}
use Rattle.plans.specs.Plans.{Path, cost, plans, In}
use Rattle.plans.specs.Cases.{Case, stands, standing}
use Rattle.plans.specs.Firsts.{lesser, cheapest, amount_in}
use Rattle.plans.proofs.Members.{those_all}
use Rattle.plans.proofs.Listing.{in_plan}
use Rattle.plans.proofs.Steps.{next_there}
use Rattle.tallies.specs.Laws.{steep}
use Rattle.ways.specs.Sums.{price_sum}
use Rattle.ways.specs.Minutes.{cheapest_plan, cost_in}

-- minutes, and 0 past the arcs, are small prices
pub minutes_small : (arcs : List Arc) (n : ℕ) → Sealed n arcs → (prices : List ℤ) → ((a : ℕ) → a < length arcs → get_or prices a (pos 0) ≡ pos (arc_at arcs a).minutes) → ((a : ℕ) → length arcs ≤ a → get_or prices a (pos 0) ≡ pos 0) → (a : ℕ) → nat_abs (get_or prices a (pos 0)) ≤ steep
minutes_small arcs n sealed prices each rest a =
    ⊎_elim (λ (l : a < length arcs). subst (λ z. nat_abs z ≤ steep) (sym (each a l)) (omega (arith, (sealed.arc a l).ranged.1))) (λ (l : length arcs ≤ a). subst (λ z. nat_abs z ≤ steep) (sym (rest a l)) (omega arith)) (cases_lt a (length arcs))

-- two amounts that agree on a list have the same cheapest plan there
lesser_same : (f g : List ℕ → ℤ) (p : List ℕ) (o : Option (List ℕ)) → f p ≡ g p → ((q : List ℕ) → o ≡ Some q → f q ≡ g q) → lesser f p o ≡ lesser g p o
lesser_same f g p None e h = refl
lesser_same f g p (Some q) e h = let d = h q refl in ap (λ b. cond b q p) (ap (λ x. lt_z x (f p)) d ∙ ap (λ x. lt_z (g q) x) e)

module _ (f g : List ℕ → ℤ) where
  from_lesser : (p : List ℕ) (o : Option (List ℕ)) (q : List ℕ) → lesser g p o ≡ q → (p ≡ q) ⊎ (o ≡ Some q)
  from_lesser p None q e = inl e
  from_lesser p (Some r) q e = by (lt_z (g r) (g p)) e
    where
      by : (b : Bool) → cond b r p ≡ q → (p ≡ q) ⊎ (Some r ≡ Some q)
      by true z = inr (ap Some z)
      by false z = inl z

  cheapest_on : (q : List ℕ) (ps : List (List ℕ)) → cheapest g ps ≡ Some q → In q ps
  cheapest_on q [] e = let z : ◌≡◌ {A = ℕ} 0 1 = cc in absurd (omega arith)
  cheapest_on q (p ∷ ps) e =
      let s : lesser g p (cheapest g ps) ≡ q = cc in
      elim (from_lesser p (cheapest g ps) q s) [ inl h ↦ inl (sym h) | inr h ↦ inr (cheapest_on q ps h) ]

  pub cheapest_same : (ps : List (List ℕ)) → ((p : List ℕ) → In p ps → f p ≡ g p) → cheapest f ps ≡ cheapest g ps
  cheapest_same [] h = refl
  cheapest_same (p ∷ ps) h =
      let e = cheapest_same ps (λ q m. h q (inr m)) in
      ap Some (ap (lesser f p) e ∙ lesser_same f g p (cheapest g ps) (h p (inl refl)) (λ q m. h q (inr (cheapest_on q ps m))))

module _ (n : ℕ) (arcs : List Arc) (s : Case) (price : ℕ → ℤ) (marks : (a : ℕ) → a < length arcs → s a ≡ true) (minutes : (a : ℕ) → a < length arcs → price a ≡ pos (arc_at arcs a).minutes) where
  all_stand : (p : List ℕ) (k v : ℕ) → Path arcs k v p → stands s p ≡ true
  all_stand [] k v h = refl
  all_stand (a ∷ p) k v h = rw (marks a (next_there arcs k v a h.0)) (all_stand p (suc k) (arc_at arcs a).end h.1)

  sum_cost : (p : List ℕ) (k v : ℕ) → Path arcs k v p → price_sum price p ≡ pos (cost arcs p)
  sum_cost [] k v h = refl
  sum_cost (a ∷ p) k v h = rw (minutes a (next_there arcs k v a h.0), sum_cost p (suc k) (arc_at arcs a).end h.1)

  pub cheapest_minutes : cheapest (price_sum price) (standing n arcs s) ≡ cheapest_plan n arcs
  cheapest_minutes =
      ap (cheapest (price_sum price)) (those_all (stands s) (plans n arcs) (λ p m. all_stand p 1 0 (in_plan n arcs p m).path))
      ∙ cheapest_same (price_sum price) (λ p. pos (cost arcs p)) (plans n arcs) (λ p m. sum_cost p 1 0 (in_plan n arcs p m).path)

  amount_is : (o : Option (List ℕ)) → ((p : List ℕ) → o ≡ Some p → price_sum price p ≡ pos (cost arcs p)) → (z : Option ℤ) → z ≡ amount_in (price_sum price) o → z ≡ amount_in (λ p. pos (cost arcs p)) o
  amount_is None h z e = e
  amount_is (Some p) h z e = e ∙ ap Some (h p refl)

  pub amount_minutes : (z : Option ℤ) → z ≡ amount_in (price_sum price) (cheapest (price_sum price) (standing n arcs s)) → z ≡ amount_in (λ p. pos (cost arcs p)) (cheapest_plan n arcs)
  amount_minutes z e =
      amount_is (cheapest_plan n arcs) (λ p h. sum_cost p 1 0 (in_plan n arcs p (cheapest_on (λ q. pos (cost arcs q)) (λ q. pos (cost arcs q)) p (plans n arcs) h)).path) z (e ∙ ap (amount_in (price_sum price)) cheapest_minutes)

-- what an answer tells of the cost
module _ (arcs : List Arc) where
  pub none_cost : (o : Option (List ℕ)) → None ≡ amount_in (λ p. pos (cost arcs p)) o → None ≡ cost_in arcs o
  none_cost None e = refl
  none_cost (Some p) e = let z : ◌≡◌ {A = ℕ} 0 1 = cc in absurd (omega arith)

  pub some_cost : (o : Option (List ℕ)) (x : ℤ) → Some x ≡ amount_in (λ p. pos (cost arcs p)) o → (c : ℕ) × ((x ≡ pos c) × (Some c ≡ cost_in arcs o))
  some_cost None x e = let z : ◌≡◌ {A = ℕ} 0 1 = cc in absurd (omega arith)
  some_cost (Some p) x e = let s : x ≡ pos (cost arcs p) = cc in (cost arcs p, (s, refl))
