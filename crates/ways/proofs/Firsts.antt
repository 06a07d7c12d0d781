-- The plan that a trace follows is the first that attains the amount. Assumes nothing.
use Rattle.std.proofs.Common.{◌≡◌, ℕ, suc, ◌+◌, ◌-◌, ◌<◌, ◌≤◌, Bool, true, false, cond, ◌||◌, ◌⊎◌, List, [], ◌∷◌, map, length, ℤ, pos, ◌+ℤ◌, nat_abs, ◌≤ℤ◌, Some, None, Option, sym, refl, ap, ◌∙◌, subst, inl, inr, ⊎_elim, arith}
use lib.Signed.{lt_z}
use Rattle.std.proofs.lemmas.Int.{ints}
use Rattle.std.proofs.lemmas.Bool.{and_parts, and_from, cases_order}
use Rattle.std.specs.List.{AllByRecursion}
use Rattle.terms.specs.declared.arc.Arc.{Arc}
use Rattle.plans.specs.Arcs.{arc_at, Sealed}
use Rattle.plans.specs.Plans.{next, Path, In, Before, backs, paths, Node}
use Rattle.plans.specs.Cases.{Case, stands, those, standing}
use Rattle.plans.specs.Firsts.{foremost, lesser, cheapest, amount_in, is_there}
use Rattle.plans.specs.Words.{Stands}
use Rattle.plans.proofs.Whole.{lt_z_true}
use Rattle.plans.proofs.Members.{those_in}
use Rattle.plans.proofs.Ends.{path_ends, back_in}
use Rattle.plans.proofs.Standing.{standing_means}
use Rattle.tallies.specs.Laws.{wide, steep}
use Rattle.tallies.specs.Kinds.{least_join, least_extend}
use Rattle.ways.specs.Amounts.{along_back, joining, backward_amount}
use Rattle.ways.specs.Sums.{price_sum, leasts, reaches}
use Rattle.ways.specs.Traces.{Attains, Traced}
use Rattle.tallies.specs.declared.tally.Tally.{Ghosts}
use Rattle.tallies.specs.Sorts.{least_lawful, reach_lawful, least_chooses, reach_chooses, least_apart}
use Rattle.ways.proofs.Sums.{Lawful, bound}
use Rattle.ways.proofs.Picks.{Chooses, each_taken}
use Rattle.ways.proofs.Levels.{root_node, end_node, amount_narrow, taken, traced_reaches}

-- what holds of each image holds of the image of a member
all_at : {A : Type 0} (P : A → Type 0) (f : List ℕ → A) (q : List ℕ) (ps : List (List ℕ)) → AllByRecursion P (map f ps) → In q ps → P (f q)
all_at P f q [] a m = absurd m
all_at P f q (p ∷ ps) (h, hs) (inl e) = subst (λ x. P (f x)) (sym e) h
all_at P f q (p ∷ ps) (h, hs) (inr m) = all_at P f q ps hs m

-- a partial plan to the end that stands
pub record Onward (n : ℕ) (arcs : List Arc) (s : Case) (k v : ℕ) (q : List ℕ) : Type 0 where
  pub long : k + length q ≡ suc n
  pub path : Path arcs k v q
  pub all : stands s q ≡ true

module _ {X A : Type 0} (t : Ghosts X A) (laws : Lawful t) (n : ℕ) (arcs : List Arc) (sealed : Sealed n arcs) (s : Case) (price : ℕ → ℤ) (small : (a : ℕ) → nat_abs (price a) ≤ steep) where
  abbrev amount : ℕ → ℕ → A
  amount k v = backward_amount t n arcs s price k v

  along_small : (q : List ℕ) → length q ≤ 32 → t.size (along_back t price q) ≤ bound (length q)
  along_small [] l = omega (arith, laws.start_small)
  along_small (a ∷ q) l =
      let h = along_small q (omega arith) in
      omega (arith, small a, laws.extends_small (along_back t price q) (price a) (omega arith) (omega (arith, small a)))

  -- it is one of those that the amount joins
  is_listed : (k v : ℕ) (q : List ℕ) → Node n k v → Onward n arcs s k v q → In q (those (stands s) (backs n arcs k v))
  is_listed k v q node w =
      let high = node.high in
      let long = w.long in
      those_in (stands s) q (backs n arcs k v) w.all (back_in n arcs k v q (record { long = omega arith; path = w.path; ends = path_ends n arcs sealed q k v w.path w.long node.end }))

  module _ (chooses : Chooses t) where
    -- the amount takes in that of each
    pub is_taken : (k v : ℕ) (q : List ℕ) → Node n k v → Onward n arcs s k v q → t.joins (along_back t price q) (amount k v) ≡ amount k v
    is_taken k v q node w =
        all_at (λ a. t.joins a (amount k v) ≡ amount k v) (along_back t price) q (those (stands s) (backs n arcs k v)) (each_taken t laws chooses (map (along_back t price) (those (stands s) (backs n arcs k v)))) (is_listed k v q node w)

    -- an arc on a plan that attains the amount attains it
    forced : (k v j : ℕ) (q : List ℕ) → Node n k v → Onward n arcs s k v (j ∷ q) → along_back t price (j ∷ q) ≡ amount k v → Attains t n arcs s price k v j
    forced k v j q node w is =
        let goes = w.path.0 in
        let both = and_parts (s j) (stands s q) w.all in
        let test = and_from (s j) (next arcs k v j) both.0 goes in
        let e = (arc_at arcs j).end in
        let next-node = end_node n arcs sealed k v j node.low goes in
        let rest : Onward n arcs s (suc k) e q = record { long = omega (arith, w.long); path = w.path.1; all = both.1 } in
        let high : k ≤ n = omega (arith, w.long) in
        let few : length q ≤ 32 = omega (arith, w.long, node.low, sealed.few) in
        let a = along_back t price q in
        let b = amount (suc k) e in
        let x = price j in
        let narrow : t.size a < wide = omega (arith, along_small q few) in
        (test, sym (ap (λ y. t.extends y x) (is_taken (suc k) e q next-node rest)) ∙ laws.distributes a b x narrow (amount_narrow t laws n arcs sealed s price small (suc k) e next-node) (omega (arith, small j)) ∙ ap (λ y. t.joins y (t.extends b x)) is ∙ laws.comm (amount k v) (t.extends b x) ∙ taken t laws n arcs sealed s price small chooses k v node high j test)

    -- where extension tells amounts apart, no plan that attains the amount comes before the one that is traced
    pub traced_first : ((x y : A) (p : ℤ) → t.extends x p ≡ t.extends y p → x ≡ y) → (p : List ℕ) (k v : ℕ) (q : List ℕ) → Node n k v → Traced t n arcs s price k v p → Onward n arcs s k v q → along_back t price q ≡ amount k v → (p ≡ q) ⊎ Before p q
    traced_first apart [] k v [] node e w is = inl refl
    traced_first apart [] k v (j ∷ q) node e w is = absurd (omega (arith, w.long, e))
    traced_first apart (i ∷ p) k v [] node h w is =
        absurd (omega (arith, w.long, (traced_reaches t laws n arcs sealed s price small (i ∷ p) k v node h).long))
    traced_first apart (i ∷ p) k v (j ∷ q) node (pick, rest) w is =
        ⊎_elim
        (λ (same : i ≡ j).
        let goes = w.path.0 in
        let both = and_parts (s j) (stands s q) w.all in
        let next-node = end_node n arcs sealed k v j node.low goes in
        let follows : Traced t n arcs s price (suc k) (arc_at arcs j).end p = subst (λ a. Traced t n arcs s price (suc k) (arc_at arcs a).end p) same rest in
        let left = (forced k v j q node w is).1 in
        ⊎_elim (λ (e : p ≡ q). inl (ap (λ a. a ∷ p) same ∙ ap (λ xs. j ∷ xs) e)) (λ b. inr (inr (same, b))) (traced_first apart p (suc k) (arc_at arcs j).end q next-node follows (record { long = omega (arith, w.long); path = w.path.1; all = both.1 }) (apart (along_back t price q) (amount (suc k) (arc_at arcs j).end) (price j) (is ∙ sym left))))
        (⊎_elim (λ (less : i < j). inr (inl less)) (λ (more : j < i). absurd (pick.1 j more (forced k v j q node w is))))
        (cases_order i j)

-- from the root, in the words of plans
plan_onward : (n : ℕ) (arcs : List Arc) (s : Case) (q : List ℕ) → Stands n arcs s q → Onward n arcs s 1 0 q
plan_onward n arcs s q h = record { long = omega (arith, h.plan.long); path = h.plan.path; all = h.all }

-- the list of all standing plans is that of the standing partial plans from the root
whole_list : (n : ℕ) (arcs : List Arc) (s : Case) → those (stands s) (backs n arcs 1 0) ≡ standing n arcs s
whole_list n arcs s = let e : suc n - 1 ≡ n = omega arith in ap (λ m. those (stands s) (paths arcs m 1 0)) e

-- least: the amount of a plan is the sum of its prices
pub least_along : (price : ℕ → ℤ) (p : List ℕ) → along_back leasts price p ≡ Some (price_sum price p)
least_along price [] = refl
least_along price (a ∷ p) =
    ap (λ (o : Option ℤ). least_extend o (price a)) (least_along price p) ∙ ap Some (turn (price_sum price p) (price a))
  where
    turn : (x y : ℤ) → x +ℤ y ≡ y +ℤ x
    turn x y = omega (arith, ints)

module _ (price : ℕ → ℤ) where
  abbrev g : List ℕ → ℤ
  g = price_sum price

  joined_one : (p : List ℕ) (o : Option (List ℕ)) → least_join (Some (g p)) (amount_in g o) ≡ Some (g (lesser g p o))
  joined_one p None = refl
  joined_one p (Some q) = elim (lt_z (g q) (g p)) as (λ b. cond b (Some (g q)) (Some (g p)) ≡ Some (g (cond b q p))) [ true ↦ refl | false ↦ refl ]

  -- the joining over a list of plans is the amount of the cheapest
  joined_least : (ps : List (List ℕ)) → joining leasts (map (along_back leasts price) ps) ≡ amount_in g (cheapest g ps)
  joined_least [] = refl
  joined_least (p ∷ ps) = rw (least_along price p, joined_least ps) (joined_one p (cheapest g ps))

  pub least_standing : (n : ℕ) (arcs : List Arc) (s : Case) → backward_amount leasts n arcs s price 1 0 ≡ amount_in g (cheapest g (standing n arcs s))
  least_standing n arcs s = ap (λ ps. joining leasts (map (along_back leasts price) ps)) (whole_list n arcs s) ∙ joined_least (standing n arcs s)

  below_join : (x y : ℤ) → least_join (Some x) (Some y) ≡ Some y → y ≤ℤ x
  below_join x y e = by (lt_z y x) refl e
    where
      by : (b : Bool) → lt_z y x ≡ b → cond b (Some y) (Some x) ≡ Some y → y ≤ℤ x
      by true h _ = omega (arith, ints, lt_z_true y x h)
      by false h z = let same : x ≡ y = cc in omega (arith, ints, same)

  -- the plan that is traced is the first of the standing plans with the least sum
  pub least_traced : (n : ℕ) (arcs : List Arc) (sealed : Sealed n arcs) (s : Case) → ((a : ℕ) → nat_abs (price a) ≤ steep) → (p : List ℕ) → Traced leasts n arcs s price 1 0 p → cheapest g (standing n arcs s) ≡ Some p
  least_traced n arcs sealed s small p h =
      let r = traced_reaches leasts least_lawful n arcs sealed s price small p 1 0 (root_node n arcs sealed) h in
      let at : Some (g p) ≡ backward_amount leasts n arcs s price 1 0 = sym (least_along price p) ∙ r.amount in
      let node = root_node n arcs sealed in
      ((standing_means n arcs s g).priced p).1 (record {
        stands = record { plan = record { long = omega (arith, r.long); path = r.path }; all = r.all };
        least = λ q w.
            let took = is_taken leasts least_lawful n arcs sealed s price small least_chooses 1 0 q node (plan_onward n arcs s q w) in
            below_join (g q) (g p) (ap (λ (o : Option ℤ). least_join (Some (g q)) o) at ∙ ap (λ (o : Option ℤ). least_join o (backward_amount leasts n arcs s price 1 0)) (sym (least_along price q)) ∙ took ∙ sym at);
        first = λ q w l.
            let took = is_taken leasts least_lawful n arcs sealed s price small least_chooses 1 0 q node (plan_onward n arcs s q w) in
            let m = below_join (g q) (g p) (ap (λ (o : Option ℤ). least_join (Some (g q)) o) at ∙ ap (λ (o : Option ℤ). least_join o (backward_amount leasts n arcs s price 1 0)) (sym (least_along price q)) ∙ took ∙ sym at) in
            let same : g q ≡ g p = omega (arith, ints) in
            traced_first leasts least_lawful n arcs sealed s price small least_chooses least_apart p 1 0 q node h (plan_onward n arcs s q w) (least_along price q ∙ ap Some same ∙ at);
      })

-- reach: every plan's amount is yes
module _ (price : ℕ → ℤ) where
  reach_along : (p : List ℕ) → along_back reaches price p ≡ true
  reach_along [] = refl
  reach_along (a ∷ p) = reach_along p

  joined_reach : (ps : List (List ℕ)) → joining reaches (map (along_back reaches price) ps) ≡ is_there (foremost ps)
  joined_reach [] = refl
  joined_reach (p ∷ ps) = ap (λ b. b || joining reaches (map (along_back reaches price) ps)) (reach_along p)

  pub reach_standing : (n : ℕ) (arcs : List Arc) (s : Case) → backward_amount reaches n arcs s price 1 0 ≡ is_there (foremost (standing n arcs s))
  reach_standing n arcs s = ap (λ ps. joining reaches (map (along_back reaches price) ps)) (whole_list n arcs s) ∙ joined_reach (standing n arcs s)

  -- the plan that is traced is the first of the standing plans
  pub reach_traced : (n : ℕ) (arcs : List Arc) (sealed : Sealed n arcs) (s : Case) → ((a : ℕ) → nat_abs (price a) ≤ steep) → (p : List ℕ) → Traced reaches n arcs s price 1 0 p → foremost (standing n arcs s) ≡ Some p
  reach_traced n arcs sealed s small p h =
      let r = traced_reaches reaches reach_lawful n arcs sealed s price small p 1 0 (root_node n arcs sealed) h in
      ((standing_means n arcs s (λ q. pos 0)).sampled p).1 (record {
        stands = record { plan = record { long = omega (arith, r.long); path = r.path }; all = r.all };
        first = λ q w. traced_first reaches reach_lawful n arcs sealed s price small reach_chooses (λ x y z e. e) p 1 0 q (root_node n arcs sealed) h (plan_onward n arcs s q w) (reach_along q ∙ sym (reach_along p) ∙ r.amount);
      })
