-- The amounts before and behind an arc say whether a standing plan through it is priced below a mark, and whether there is
-- one at all. Assumes nothing.
use Rattle.std.proofs.Common.{◌≡◌, ℕ, suc, ◌+◌, ◌-◌, ◌<◌, ◌≤◌, Bool, true, false, ◌&&◌, ◌||◌, List, [], ◌∷◌, ◌++◌, map, length, get_or, ℤ, ◌+ℤ◌, nat_abs, ◌≤ℤ◌, Some, None, Option, sym, refl, ap, ◌∙◌, subst, add-one, inl, arith}
use lib.Signed.{lt_z}
use Rattle.std.proofs.lemmas.Int.{ints}
use Rattle.std.proofs.lemmas.Bool.{and_parts, and_from, false≢true}
use Rattle.std.proofs.lemmas.List.{get_or_read}
use Rattle.terms.specs.declared.arc.Arc.{Arc}
use Rattle.plans.specs.Arcs.{arc_at, Sealed}
use Rattle.plans.specs.Plans.{In, Node}
use Rattle.plans.specs.Cases.{Case, those, standing, on_some}
use Rattle.plans.specs.Firsts.{cheapest, amount_in}
use Rattle.plans.proofs.Members.{those_in, those_out}
use Rattle.plans.proofs.Steps.{next_from}
use Rattle.plans.proofs.Standing.{on_some_lem, some_on, cheapest_least, cheapest_in}
use Rattle.tallies.specs.Laws.{wide, steep}
use Rattle.tallies.specs.Kinds.{least_extend}
use Rattle.tallies.specs.declared.tally.Tally.{Ghosts}
use Rattle.ways.specs.Amounts.{along, along_back, joining, entry, Forward, Backward}
use Rattle.ways.specs.Directions.{onward}
use Rattle.ways.specs.Sums.{price_sum, leasts, reaches}
use Rattle.ways.proofs.Sums.{Lawful, way_narrow}
use Rattle.ways.proofs.Turns.{forward_way}
use Rattle.ways.proofs.Levels.{end_node, amount_narrow, read_table}
use Rattle.through.specs.Keeping.{through_arc, below, amount_before, amount_behind, below_mark, both_reached}
use Rattle.through.proofs.Bools.{same_bool}
use Rattle.through.proofs.Splits.{on_made, befores, behinds, parted, joined}
use Rattle.through.proofs.Minima.{sum_join, forward_joined, backward_joined}

-- LEAST

-- smaller amounts before and behind make a smaller sum
lower : (f b u v x z mark : ℤ) → f ≤ℤ u → b ≤ℤ v → lt_z ((u +ℤ (x +ℤ v)) +ℤ z) mark ≡ true → lt_z (((f +ℤ x) +ℤ b) +ℤ z) mark ≡ true
lower f b u v x z mark h k e = grind (arith, ints)

-- two ways to sum up
regroup : (f x b z : ℤ) → ((f +ℤ x) +ℤ b) +ℤ z ≡ (f +ℤ (x +ℤ b)) +ℤ z
regroup f x b z = omega (arith, ints)

module _ (n : ℕ) (arcs : List Arc) (sealed : Sealed n arcs) (s : Case) (price : ℕ → ℤ) (f : List ℕ → ℤ) (share : ℤ) (same : (p : List ℕ) → In p (standing n arcs s) → f p ≡ price_sum price p +ℤ share) (mark : ℤ) (a : ℕ) (l : a < length arcs) where
  -- the standing plans priced below the mark
  abbrev cheap : List (List ℕ)
  cheap = those (λ p. lt_z (f p) mark) (standing n arcs s)

  -- the sum of a partial plan's prices
  abbrev g : List ℕ → ℤ
  g = price_sum price

  -- the standing partial plans before and behind the arc
  abbrev F : List (List ℕ)
  F = befores n arcs sealed s a l

  abbrev B : List (List ℕ)
  B = behinds n arcs sealed s a l

  -- the test of two of them
  abbrev test : Option (List ℕ) → Option (List ℕ) → Bool
  test u v = below (least_extend (through_arc (amount_in g u) (price a) (amount_in g v)) share) mark

  -- the amount of a plan through the arc
  through_sum : (u v : List ℕ) → In (u ++ a ∷ v) (standing n arcs s) → f (u ++ a ∷ v) ≡ (g u +ℤ (price a +ℤ g v)) +ℤ share
  through_sum u v m = same (u ++ a ∷ v) m ∙ ap (λ x. x +ℤ share) (sum_join price u (a ∷ v))

  -- where a standing plan through the arc is priced below the mark, the test says yes
  on_below : on_some cheap a ≡ true → test (cheapest g F) (cheapest g B) ≡ true
  on_below e =
      let r = some_on a cheap e in
      let p = r.0 in
      let w = those_out (λ q. lt_z (f q) mark) p (standing n arcs s) r.1.0 in
      let t = parted n arcs sealed s a l p w.1 r.1.1 in
      let u = cheapest_least g t.front F t.before in
      let v = cheapest_least g t.back B t.behind in
      let in_all : In (t.front ++ a ∷ t.back) (standing n arcs s) = subst (λ q. In q (standing n arcs s)) t.whole w.1 in
      let low : lt_z ((g t.front +ℤ (price a +ℤ g t.back)) +ℤ share) mark ≡ true = ap (λ x. lt_z x mark) (sym (ap f t.whole ∙ through_sum t.front t.back in_all)) ∙ w.0 in
      ap (λ (o : Option (List ℕ)). test o (cheapest g B)) u.1.0
      ∙ ap (λ (o : Option (List ℕ)). test (Some u.0) o) v.1.0
      ∙ lower (g u.0) (g v.0) (g t.front) (g t.back) (price a) share mark u.1.1 v.1.1 low

  -- where it says yes, there is such a plan
  below_on : s a ≡ true → (x y : Option (List ℕ)) → cheapest g F ≡ x → cheapest g B ≡ y → test x y ≡ true → on_some cheap a ≡ true
  below_on st None None ex ey e = absurd (false≢true e)
  below_on st None (Some v) ex ey e = absurd (false≢true e)
  below_on st (Some u) None ex ey e = absurd (false≢true e)
  below_on st (Some u) (Some v) ex ey e =
      let m = joined n arcs sealed s a l st u v (cheapest_in g u F ex) (cheapest_in g v B ey) in
      on_some_lem (u ++ a ∷ v) a cheap (those_in (λ q. lt_z (f q) mark) (u ++ a ∷ v) (standing n arcs s) (ap (λ x. lt_z x mark) (through_sum u v m ∙ sym (regroup (g u) (price a) (g v) share)) ∙ e) m) (on_made a u v)

  -- the amounts before and behind are those of the cheapest partial plans
  test_is : below_mark share mark (price a) (amount_before leasts arcs s price a) (amount_behind leasts n arcs s price a) ≡ test (cheapest g F) (cheapest g B)
  test_is =
      ap (λ (o : Option ℤ). below (least_extend (through_arc o (price a) (amount_behind leasts n arcs s price a)) share) mark) (forward_joined price F)
      ∙ ap (λ (o : Option ℤ). below (least_extend (through_arc (amount_in g (cheapest g F)) (price a) o) share) mark) (backward_joined price B)

  -- so the amounts before and behind an arc that stands tell whether it is on one of those plans
  pub below_is : s a ≡ true → below_mark share mark (price a) (amount_before leasts arcs s price a) (amount_behind leasts n arcs s price a) ≡ on_some cheap a
  below_is e = test_is ∙ same_bool _ _ (below_on e (cheapest g F) (cheapest g B) refl refl) on_below

-- REACH

-- whether a list has a plan
abbrev has : List (List ℕ) → Bool
has [] = false
has (p ∷ ps) = true

-- then there is one on it
has_in : (ps : List (List ℕ)) → has ps ≡ true → (p : List ℕ) × In p ps
has_in [] e = absurd (false≢true e)
has_in (p ∷ ps) e = (p, inl refl)

-- a list with a plan on it has one
in_has : (ps : List (List ℕ)) (p : List ℕ) → In p ps → has ps ≡ true
in_has [] p m = absurd m
in_has (q ∷ ps) p m = refl

module _ (price : ℕ → ℤ) where
  -- the amount of every partial plan is yes
  reach_onto : (p : List ℕ) → along reaches price p ≡ true
  reach_onto [] = refl
  reach_onto (a ∷ p) = reach_onto p

  reach_back : (p : List ℕ) → along_back reaches price p ≡ true
  reach_back [] = refl
  reach_back (a ∷ p) = reach_back p

  -- the joining over a list says whether it has one
  reach_joined : (h : List ℕ → Bool) → ((p : List ℕ) → h p ≡ true) → (ps : List (List ℕ)) → joining reaches (map h ps) ≡ has ps
  reach_joined h e [] = refl
  reach_joined h e (p ∷ ps) = ap (λ b. b || joining reaches (map h ps)) (e p)

module _ (n : ℕ) (arcs : List Arc) (sealed : Sealed n arcs) (s : Case) (price : ℕ → ℤ) (a : ℕ) (l : a < length arcs) where
  -- the standing partial plans before and behind the arc
  abbrev F' : List (List ℕ)
  F' = befores n arcs sealed s a l

  abbrev B' : List (List ℕ)
  B' = behinds n arcs sealed s a l

  -- both ends are reached exactly if there are both
  reach_is : both_reached (price a) (amount_before reaches arcs s price a) (amount_behind reaches n arcs s price a) ≡ (has F' && has B')
  reach_is =
      ap (λ b. b && amount_behind reaches n arcs s price a) (reach_joined price (along reaches price) (reach_onto price) F')
      ∙ ap (λ b. has F' && b) (reach_joined price (along_back reaches price) (reach_back price) B')

  -- a standing plan through the arc has both parts
  on_reached : on_some (standing n arcs s) a ≡ true → (has F' && has B') ≡ true
  on_reached e =
      let r = some_on a (standing n arcs s) e in
      let t = parted n arcs sealed s a l r.0 r.1.0 r.1.1 in
      and_from _ _ (in_has F' t.front t.before) (in_has B' t.back t.behind)

  -- two parts make such a plan
  reached_on : s a ≡ true → (has F' && has B') ≡ true → on_some (standing n arcs s) a ≡ true
  reached_on st e =
      let t = and_parts (has F') (has B') e in
      let u = has_in F' t.0 in
      let v = has_in B' t.1 in
      on_some_lem (u.0 ++ a ∷ v.0) a (standing n arcs s) (joined n arcs sealed s a l st u.0 v.0 u.1 v.1) (on_made a u.0 v.0)

  -- a standing plan goes through an arc that stands exactly if both its ends are reached
  pub reached_is : s a ≡ true → both_reached (price a) (amount_before reaches arcs s price a) (amount_behind reaches n arcs s price a) ≡ on_some (standing n arcs s) a
  reached_is e = reach_is ∙ same_bool _ _ (reached_on e) on_reached

-- TABLES

module _ (n : ℕ) (arcs : List Arc) (sealed : Sealed n arcs) (a : ℕ) (l : a < length arcs) where
  -- the nodes at which an arc starts and ends
  pub start_node : Node n (arc_at arcs a).place (arc_at arcs a).start
  start_node =
      let x = sealed.arc a l in
      record { low = x.placed.0; high = omega (arith, x.placed.1); below = x.noded.0; root = x.rooted; end = λ q. absurd (omega (arith, x.placed.1, q)) }

  pub final_node : Node n (suc (arc_at arcs a).place) (arc_at arcs a).end
  final_node =
      end_node n arcs sealed (arc_at arcs a).place (arc_at arcs a).start a (sealed.arc a l).placed.0 (next_from arcs (arc_at arcs a).place (arc_at arcs a).start a l refl refl)

  module _ {X A : Type 0} (t : Ghosts X A) (laws : Lawful t) (s : Case) (price : ℕ → ℤ) (small : (i : ℕ) → nat_abs (price i) ≤ steep) (table : List A) (long : length table ≡ 1056) (q : ℕ) (x : A) (read : x ≡ get_or table q x) where
    -- what is read at them in filled tables
    pub read_before : Forward t n arcs s price table → q ≡ entry (arc_at arcs a).place (arc_at arcs a).start → x ≡ amount_before t arcs s price a
    read_before filled at =
        let x = sealed.arc a l in
        let few = sealed.few in
        let high = x.placed.1 in
        let below = x.noded.0 in
        get_or_read table q _ (omega arith) read t.nothing ∙ ap (λ m. get_or table m t.nothing) at ∙ filled (arc_at arcs a).place (arc_at arcs a).start start_node

    pub read_behind : Backward t n arcs s price table → q ≡ entry (suc (arc_at arcs a).place) (arc_at arcs a).end → x ≡ amount_behind t n arcs s price a
    read_behind filled at = read_table t laws n arcs sealed s price small table (suc (arc_at arcs a).place) (arc_at arcs a).end q x filled long final_node at read

  module _ {X A : Type 0} (t : Ghosts X A) (laws : Lawful t) (s : Case) (price : ℕ → ℤ) (small : (i : ℕ) → nat_abs (price i) ≤ steep) where
    -- neither amount is too large
    pub before_small : t.size (amount_before t arcs s price a) < wide
    before_small =
        let few = sealed.few in
        let high = (sealed.arc a l).placed.1 in
        subst (λ (o : A). t.size o < wide) (sym (forward_way t price n arcs s (arc_at arcs a).place (arc_at arcs a).start (sealed.arc a l).placed.0)) (way_narrow t laws onward n arcs s price small ((arc_at arcs a).place - 1) (arc_at arcs a).start (omega arith))

    pub behind_small : t.size (amount_behind t n arcs s price a) < wide
    behind_small = amount_narrow t laws n arcs sealed s price small (suc (arc_at arcs a).place) (arc_at arcs a).end final_node

-- so what is read at an arc of a sealed chart, in two filled tables
module _ {X A : Type 0} (t : Ghosts X A) (laws : Lawful t) (n : ℕ) (arcs : List Arc) (sealed : Sealed n arcs) (s : Case) (price : ℕ → ℤ) (small : (i : ℕ) → nat_abs (price i) ≤ steep) (fore back : List A) (ahead : Forward t n arcs s price fore) (home : Backward t n arcs s price back) (fore_long : length fore ≡ 1056) (back_long : length back ≡ 1056) where
  pub record Read (a : ℕ) (x y : A) : Type 0 where
    pub front : x ≡ amount_before t arcs s price a
    pub behind : y ≡ amount_behind t n arcs s price a
    pub front_small : t.size x < wide
    pub back_small : t.size y < wide

  pub read : (items : List Arc) → items ≡ arcs → (a : ℕ) → a < length items → (k m p q : ℕ) (x y : A) → k ≡ (arc_at items a).place → m ≡ (arc_at items a).place → p ≡ entry k (arc_at items a).start → q ≡ entry (m + 1) (arc_at items a).end → x ≡ get_or fore p x → y ≡ get_or back q y → Read a x y
  read items is a l k m p q x y ek em ep eq ex ey =
      let there : a < length arcs = omega (arith, ap length is) in
      let front = read_before n arcs sealed a there t laws s price small fore fore_long p x ex ahead (ep ∙ ap (λ j. entry j (arc_at items a).start) ek ∙ ap (λ (xs : List Arc). entry (arc_at xs a).place (arc_at xs a).start) is) in
      let behind = read_behind n arcs sealed a there t laws s price small back back_long q y ey home (eq ∙ ap (λ j. entry (j + 1) (arc_at items a).end) em ∙ ap (λ j. entry j (arc_at items a).end) (add-one (arc_at items a).place) ∙ ap (λ (xs : List Arc). entry (suc (arc_at xs a).place) (arc_at xs a).end) is) in
      record {
        front = front;
        behind = behind;
        front_small = subst (λ o. t.size o < wide) (sym front) (before_small n arcs sealed a there t laws s price small);
        back_small = subst (λ o. t.size o < wide) (sym behind) (behind_small n arcs sealed a there t laws s price small);
      }
