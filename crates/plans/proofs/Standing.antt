-- The plans that stand in a case, the arcs on plans, the first plan and the first with the least amount. Assumes nothing.
use Rattle.std.proofs.Common.{◌≡◌, ℕ, zero, suc, ◌+◌, Bool, true, false, cond, not, ◌&&◌, eqb, ◌⊎◌, List, [], ◌∷◌, ℤ, ◌≤ℤ◌, Some, None, Option, sym, refl, ap, ◌∙◌, subst, inl, inr, arith}
use lib.Signed.{lt_z}
use Rattle.std.proofs.lemmas.Int.{ints}
use Rattle.std.proofs.lemmas.Bool.{and_parts, and_from, or_cases, or_left, or_right, eqb-true, eq-eqb, cases_Bool, true≢false}
use Rattle.terms.specs.declared.arc.Arc.{Arc}
use Rattle.plans.specs.Plans.{plans, In, Before, Ordered}
use Rattle.plans.specs.Cases.{Case, stands, standing, on, on_some, kept, gone, size}
use Rattle.plans.specs.Firsts.{foremost, lesser, cheapest}
use Rattle.plans.specs.Words.{Stands, FirstLeast, Meant, StandingMeans}
use Rattle.plans.proofs.Whole.{lt_z_true, lt_z_false}
use Rattle.plans.proofs.Members.{those_in, those_out}
use Rattle.plans.proofs.Listing.{plan_in_lem, in_plan}
use Rattle.plans.proofs.InOrder.{plans_ordered, those_ordered, antisymmetric}

-- each arc of a plan that stands is in the case
pub stands_each : (s : Case) (p : List ℕ) (a : ℕ) → stands s p ≡ true → on a p ≡ true → s a ≡ true
stands_each s [] a h k = absurd (true≢false (sym k))
stands_each s (b ∷ p) a h k =
    let r = and_parts (s b) (stands s p) h in
    elim (or_cases (eqb a b) (on a p) k) [
      | inl e ↦ ap s (eqb-true a b e) ∙ r.0
      | inr m ↦ stands_each s p a r.1 m
    ]

-- a plan whose arcs are all in the case stands
pub stands_all : (s : Case) (p : List ℕ) → ((a : ℕ) → on a p ≡ true → s a ≡ true) → stands s p ≡ true
stands_all s [] h = refl
stands_all s (b ∷ p) h =
    and_from (s b) (stands s p) (h b (or_left (eqb b b) (on b p) (eq-eqb b b refl))) (stands_all s p (λ a k. h a (or_right (eqb a b) (on a p) k)))

-- an arc on a plan of a list is on some plan of it
pub on_some_lem : (p : List ℕ) (a : ℕ) (ps : List (List ℕ)) → In p ps → on a p ≡ true → on_some ps a ≡ true
on_some_lem p a [] m h = absurd m
on_some_lem p a (q ∷ qs) (inl e) h = or_left (on a q) (on_some qs a) (ap (on a) (sym e) ∙ h)
on_some_lem p a (q ∷ qs) (inr m) h = or_right (on a q) (on_some qs a) (on_some_lem p a qs m h)

-- an arc on some plan of a list: that plan
pub some_on : (a : ℕ) (ps : List (List ℕ)) → on_some ps a ≡ true → (p : List ℕ) × (In p ps × (on a p ≡ true))
some_on a [] h = absurd (true≢false (sym h))
some_on a (p ∷ ps) h =
    elim (or_cases (on a p) (on_some ps a) h) [
      | inl k ↦ (p, (inl refl, k))
      | inr k ↦ let r = some_on a ps k in (r.0, (inr r.1.0, r.1.1))
    ]

-- the first of a list is on it
pub foremost_in : (p : List ℕ) (ps : List (List ℕ)) → foremost ps ≡ Some p → In p ps
foremost_in p [] e = let z : ◌≡◌ {A = ℕ} 0 1 = cc in absurd (omega arith)
foremost_in p (x ∷ xs) e = let z : p ≡ x = cc in inl z

-- a list with a plan has a first
pub in_foremost : (p : List ℕ) (ps : List (List ℕ)) → In p ps → (q : List ℕ) × (foremost ps ≡ Some q)
in_foremost p [] m = absurd m
in_foremost p (x ∷ xs) m = (x, refl)

-- the first of a list in order comes before all others
pub foremost_first : (p q : List ℕ) (ps : List (List ℕ)) → Ordered ps → foremost ps ≡ Some p → In q ps → (p ≡ q) ⊎ Before p q
foremost_first p q [] o e m = absurd m
foremost_first p q (x ∷ xs) o e (inl h) = let z : p ≡ q = cc in inl z
foremost_first p q (x ∷ xs) o e (inr h) = let z : x ≡ p = cc in inr (subst (λ y. Before y q) z (o.0 q h))

module _ (f : List ℕ → ℤ) where
  lesser_first : (p : List ℕ) (o : Option (List ℕ)) → f (lesser f p o) ≤ℤ f p
  lesser_first p None = omega (arith, ints)
  lesser_first p (Some q) = elim (cases_Bool (lt_z (f q) (f p))) [
    | inl h ↦ rw h (omega (arith, ints, lt_z_true (f q) (f p) h))
    | inr h ↦ rw h (omega (arith, ints))
  ]

  lesser_rest : (p q : List ℕ) → f (lesser f p (Some q)) ≤ℤ f q
  lesser_rest p q = elim (cases_Bool (lt_z (f q) (f p))) [
    | inl h ↦ rw h (omega (arith, ints))
    | inr h ↦ rw h (omega (arith, ints, lt_z_false (f q) (f p) h))
  ]

  -- a list with a plan has a cheapest, and no plan of it is cheaper
  pub cheapest_least : (p : List ℕ) (ps : List (List ℕ)) → In p ps → (q : List ℕ) × ((cheapest f ps ≡ Some q) × (f q ≤ℤ f p))
  cheapest_least p [] m = absurd m
  cheapest_least p (x ∷ xs) (inl e) =
      (lesser f x (cheapest f xs), (refl, subst (λ y. f (lesser f x (cheapest f xs)) ≤ℤ f y) (sym e) (lesser_first x (cheapest f xs))))
  cheapest_least p (x ∷ xs) (inr m) =
      let r = cheapest_least p xs m in
      let k : f (lesser f x (cheapest f xs)) ≤ℤ f r.0 = subst (λ o. f (lesser f x o) ≤ℤ f r.0) (sym r.1.0) (lesser_rest x r.0) in
      (lesser f x (cheapest f xs), (refl, omega (arith, ints, k, r.1.1)))

  lesser_in : (x : List ℕ) (xs : List (List ℕ)) (o : Option (List ℕ)) → ((q : List ℕ) → o ≡ Some q → In q xs) → In (lesser f x o) (x ∷ xs)
  lesser_in x xs None h = inl refl
  lesser_in x xs (Some q) h = elim (lt_z (f q) (f x)) as (λ b. In (cond b q x) (x ∷ xs)) [ true ↦ inr (h q refl) | false ↦ inl refl ]

  -- the cheapest of a list is on it
  pub cheapest_in : (q : List ℕ) (ps : List (List ℕ)) → cheapest f ps ≡ Some q → In q ps
  cheapest_in q [] e = let z : ◌≡◌ {A = ℕ} 0 1 = cc in absurd (omega arith)
  cheapest_in q (x ∷ xs) e =
      let s : lesser f x (cheapest f xs) ≡ q = cc in
      subst (λ y. In y (x ∷ xs)) s (lesser_in x xs (cheapest f xs) (λ y. cheapest_in y xs))

  lesser_before : (x q : List ℕ) (xs : List (List ℕ)) (o : Option (List ℕ)) → ((r : List ℕ) → In r xs → Before x r) → ((y : List ℕ) → o ≡ Some y → In q xs → f q ≤ℤ f y → (y ≡ q) ⊎ Before y q) → In q (x ∷ xs) → f q ≤ℤ f (lesser f x o) → (lesser f x o ≡ q) ⊎ Before (lesser f x o) q
  lesser_before x q xs None h g (inl e) l = inl (sym e)
  lesser_before x q xs None h g (inr m) l = inr (h q m)
  lesser_before x q xs (Some y) h g m l = by (lt_z (f y) (f x)) refl m l
    where
      by : (b : Bool) → lt_z (f y) (f x) ≡ b → In q (x ∷ xs) → f q ≤ℤ f (cond b y x) → (cond b y x ≡ q) ⊎ Before (cond b y x) q
      by true e (inl z) k = let s : f x ≤ℤ f y = subst (λ w. f w ≤ℤ f y) z k in absurd (omega (arith, ints, lt_z_true (f y) (f x) e))
      by true e (inr z) k = g y refl z k
      by false e (inl z) k = inl (sym z)
      by false e (inr z) k = inr (h q z)

  -- the cheapest of a list in order comes before all others as cheap
  pub cheapest_first : (p q : List ℕ) (ps : List (List ℕ)) → Ordered ps → cheapest f ps ≡ Some p → In q ps → f q ≤ℤ f p → (p ≡ q) ⊎ Before p q
  cheapest_first p q [] o e m l = absurd m
  cheapest_first p q (x ∷ xs) o e m l =
      let z : lesser f x (cheapest f xs) ≡ p = cc in
      subst (λ w. (w ≡ q) ⊎ Before w q) z
      (lesser_before x q xs (cheapest f xs) o.0 (λ y u v w. cheapest_first y q xs o.1 u v w) m (subst (λ w. f q ≤ℤ f w) (sym z) l))

some_none : (p : List ℕ) → Some p ≡ None → ⊥
some_none p e = let z : ◌≡◌ {A = ℕ} 0 1 = cc in omega arith

none : (o : Option (List ℕ)) → ((p : List ℕ) → o ≡ Some p → ⊥) → o ≡ None
none None h = refl
none (Some p) h = absurd (h p refl)

-- the arcs of a case are those on some plan of a list and those on none
pub both_sizes : (ps : List (List ℕ)) (s : Case) (n : ℕ) → size s n ≡ size (kept ps s) n + size (gone ps s) n
both_sizes ps s zero = refl
both_sizes ps s (suc n) = by (s n) (on_some ps n) (size s n) (size (kept ps s) n) (size (gone ps s) n) (both_sizes ps s n)
  where
    by : (x y : Bool) (i j k : ℕ) → i ≡ j + k → cond x (suc i) i ≡ cond (x && y) (suc j) j + cond (x && not y) (suc k) k
    by true true i j k e = omega arith
    by true false i j k e = omega arith
    by false y i j k e = e

module _ (n : ℕ) (arcs : List Arc) (s : Case) where
  -- a plan that stands is listed
  pub stands_in : (p : List ℕ) → Stands n arcs s p → In p (standing n arcs s)
  stands_in p h = those_in (stands s) p (plans n arcs) h.all (plan_in_lem n arcs p h.plan)

  -- a plan listed stands
  pub in_stands : (p : List ℕ) → In p (standing n arcs s) → Stands n arcs s p
  in_stands p i = let r = those_out (stands s) p (plans n arcs) i in record { plan = in_plan n arcs p r.1; all = r.0 }

  -- the standing plans are in order
  pub standing_ordered : Ordered (standing n arcs s)
  standing_ordered = those_ordered (stands s) (plans n arcs) (plans_ordered n arcs)

  same : (p q : List ℕ) → (p ≡ q) ⊎ Before p q → (q ≡ p) ⊎ Before q p → q ≡ p
  same p q (inl e) k = sym e
  same p q (inr h) (inl e) = e
  same p q (inr h) (inr k) = absurd (antisymmetric p q h k)

  module _ (f : List ℕ → ℤ) where
    first_least : (p : List ℕ) → cheapest f (standing n arcs s) ≡ Some p → FirstLeast n arcs s f p
    first_least p e = record {
      stands = in_stands p (cheapest_in f p (standing n arcs s) e);
      least = λ q h.
          let r = cheapest_least f q (standing n arcs s) (stands_in q h) in
          let z : r.0 ≡ p = taken r.0 p (cheapest f (standing n arcs s)) r.1.0 e in
          subst (λ x. f x ≤ℤ f q) z r.1.1;
      first = λ q h l. cheapest_first f p q (standing n arcs s) standing_ordered e (stands_in q h) l;
    }
      where
        taken : (x y : List ℕ) (o : Option (List ℕ)) → o ≡ Some x → o ≡ Some y → x ≡ y
        taken x y o h k = cc

    least_first : (p : List ℕ) → FirstLeast n arcs s f p → cheapest f (standing n arcs s) ≡ Some p
    least_first p h =
        let r = cheapest_least f p (standing n arcs s) (stands_in p h.stands) in
        let g = first_least r.0 r.1.0 in
        r.1.0 ∙ ap (λ (x : List ℕ). Some x) (same p r.0 (h.first r.0 g.stands r.1.1) (g.first p h.stands (h.least r.0 g.stands)))

    meant : Meant n arcs s f
    meant = record {
      listed = λ p. (in_stands p, stands_in p);
      sampled = λ p. (
        (λ e. record { stands = in_stands p (foremost_in p (standing n arcs s) e); first = λ q h. foremost_first p q (standing n arcs s) standing_ordered e (stands_in q h) }),
        (λ h.
            let r = in_foremost p (standing n arcs s) (stands_in p h.stands) in
            let i = foremost_in r.0 (standing n arcs s) r.1 in
            r.1 ∙ ap (λ (x : List ℕ). Some x) (same p r.0 (h.first r.0 (in_stands r.0 i)) (foremost_first r.0 p (standing n arcs s) standing_ordered r.1 (stands_in p h.stands)))),
      );
      unsampled = (
        (λ e p h. let r = in_foremost p (standing n arcs s) (stands_in p h) in some_none r.0 (sym r.1 ∙ e)),
        (λ h. none (foremost (standing n arcs s)) (λ p e. h p (in_stands p (foremost_in p (standing n arcs s) e)))),
      );
      priced = λ p. (first_least p, least_first p);
      unpriced = (
        (λ e p h. let r = cheapest_least f p (standing n arcs s) (stands_in p h) in some_none r.0 (sym r.1.0 ∙ e)),
        (λ h. none (cheapest f (standing n arcs s)) (λ p e. h p (first_least p e).stands)),
      );
      touched = λ ps a. (some_on a ps, λ h. on_some_lem h.0 a ps h.1.0 h.1.1);
      parted = λ ps m. both_sizes ps s m;
    }

-- what the standing plans, the first of them and the first with the least amount are
pub standing_means : StandingMeans
standing_means n arcs s f = meant n arcs s f
