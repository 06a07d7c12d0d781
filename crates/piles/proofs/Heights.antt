-- How the cases of a pile change with the marks and the records. Assumes nothing.
use Rattle.std.proofs.Common.{◌≡◌, ℕ, zero, suc, ◌<◌, ◌≤◌, Bool, true, false, cond, not, ◌&&◌, ◌||◌, eqb, ltb, List, ◌∷◌, length, get_or, set, sym, refl, ap, subst, ap₂, arith, get_or-set_other, get_or-set_same}
use mathlib.Core.Path.{fun_ext}
use Rattle.std.proofs.lemmas.Bool.Decides.{nat_tests}
use Rattle.terms.specs.declared.arc.Arc.{Arc}
use Rattle.terms.specs.Routes.{in_set}
use Rattle.plans.specs.Arcs.{arc_at}
use Rattle.plans.specs.Cases.{every}
use Rattle.judging.specs.Cases.{inside, outside}
use Rattle.piles.specs.declared.pile.Split.{Split}
use Rattle.piles.specs.declared.pile.Side.TheVariants.{Inside, Outside}
use Rattle.piles.specs.Heights.{no_split, split_at, stands_at, left_by, cases_under, cases_of, sided, cut_mark, lift_mark, keep_mark}

pub length_under : (arcs : List Arc) (marks : List ℕ) (splits : List Split) (i : ℕ) → length (cases_under arcs marks splits i) ≡ i
length_under arcs marks splits zero = refl
length_under arcs marks splits (suc i) = ap suc (length_under arcs marks splits i)

pub length_cases : (arcs : List Arc) (marks : List ℕ) (splits : List Split) (k : ℕ) → length (cases_of arcs marks splits k) ≡ k
length_cases arcs marks splits zero = refl
length_cases arcs marks splits (suc i) = ap suc (length_under arcs marks splits i)

-- with no mark, every arc stands
pub all_stand : (arcs : List Arc) (marks : List ℕ) (i : ℕ) → ((a : ℕ) → get_or marks a 0 ≡ 0) → stands_at arcs marks i ≡ every arcs
all_stand arcs marks i none = fun_ext (λ a. subst (λ m. (ltb a (length arcs) && (eqb m 0 || ltb i m)) ≡ ltb a (length arcs)) (sym (none a)) (by (ltb a (length arcs))))
  where
    by : (b : Bool) → (b && true) ≡ b
    by true = refl
    by false = refl

-- the cases under a height follow the marks up to it and the records below it
pub under_same : (arcs : List Arc) (marks new : List ℕ) (splits more : List Split) (k : ℕ) → ((i : ℕ) → i ≤ k → stands_at arcs new i ≡ stands_at arcs marks i) → ((i : ℕ) → i < k → split_at more i ≡ split_at splits i) → cases_under arcs new more k ≡ cases_under arcs marks splits k
under_same arcs marks new splits more zero h g = refl
under_same arcs marks new splits more (suc k) h g =
    ap₂ ◌∷◌ (ap₂ (left_by arcs) (g k (omega arith)) (h (suc k) (omega arith))) (under_same arcs marks new splits more k (λ i l. h i (omega arith)) (λ i l. g i (omega arith)))

-- KEEP: arcs of the working case leave at its own height

keep_level : (n e : Bool) (m k i : ℕ) → m ≤ k → i < k → (n && (eqb (cond (n && (eqb m 0 && e)) k m) 0 || ltb i (cond (n && (eqb m 0 && e)) k m))) ≡ (n && (eqb m 0 || ltb i m))
keep_level false e m k i h l = refl
keep_level true true m k i h l = grind (arith, nat_tests)
keep_level true false m k i h l = grind (arith, nat_tests)

keep_top : (n x : Bool) (m k : ℕ) → m ≤ k → 0 < k → (n && (eqb (cond (n && (eqb m 0 && not x)) k m) 0 || ltb k (cond (n && (eqb m 0 && not x)) k m))) ≡ ((n && (eqb m 0 || ltb k m)) && x)
keep_top false x m k h l = refl
keep_top true true m k h l = grind (arith, nat_tests)
keep_top true false m k h l = grind (arith, nat_tests)

module _ (arcs : List Arc) (marks new : List ℕ) (splits : List Split) (keep : List Bool) (i : ℕ) (low : (a : ℕ) → get_or marks a 0 ≤ suc i) (each : (a : ℕ) → get_or new a 0 ≡ keep_mark (length arcs) keep (suc i) a (get_or marks a 0)) where
  -- the working case keeps what is kept, and the cases under it stay
  pub kept_cases : cases_of arcs new splits (suc i) ≡ (λ a. stands_at arcs marks (suc i) a && get_or keep a false) ∷ cases_under arcs marks splits i
  kept_cases =
      ap₂ ◌∷◌ (fun_ext (λ a. subst (λ m. (ltb a (length arcs) && (eqb m 0 || ltb (suc i) m)) ≡ (stands_at arcs marks (suc i) a && get_or keep a false)) (sym (each a)) (keep_top (ltb a (length arcs)) (get_or keep a false) (get_or marks a 0) (suc i) (low a) (omega arith))))
      (under_same arcs marks new splits splits i (λ j l. fun_ext (λ a. subst (λ m. (ltb a (length arcs) && (eqb m 0 || ltb j m)) ≡ stands_at arcs marks j a) (sym (each a)) (keep_level (ltb a (length arcs)) (not (get_or keep a false)) (get_or marks a 0) (suc i) j (low a) (omega arith)))) (λ j l. refl))

-- SPLIT: at a place, arcs whose routes are outside a set leave at the height above

split_top : (n p x : Bool) (m k : ℕ) → m ≤ k → (n && (eqb (cond (n && (eqb m 0 && (p && not x))) (suc k) m) 0 || ltb (suc k) (cond (n && (eqb m 0 && (p && not x))) (suc k) m))) ≡ ((n && (eqb m 0 || ltb k m)) && (not p || x))
split_top false p x m k h = refl
split_top true true true m k h = grind (arith, nat_tests)
split_top true true false m k h = grind (arith, nat_tests)
split_top true false x m k h = grind (arith, nat_tests)

split_level : (n e : Bool) (m k i : ℕ) → m ≤ k → i ≤ k → (n && (eqb (cond (n && (eqb m 0 && e)) (suc k) m) 0 || ltb i (cond (n && (eqb m 0 && e)) (suc k) m))) ≡ (n && (eqb m 0 || ltb i m))
split_level false e m k i h l = refl
split_level true true m k i h l = grind (arith, nat_tests)
split_level true false m k i h l = grind (arith, nat_tests)

module _ (arcs : List Arc) (marks new : List ℕ) (splits : List Split) (x : Split) (i : ℕ) (long : i < length splits) (low : (a : ℕ) → get_or marks a 0 ≤ suc i) (each : (a : ℕ) → get_or new a 0 ≡ cut_mark arcs x.place x.routes.bits Outside (suc (suc i)) a (get_or marks a 0)) where
  pub split_low : (a : ℕ) → get_or new a 0 ≤ suc (suc i)
  split_low a = subst (λ m. m ≤ suc (suc i)) (sym (each a)) (by (sided arcs x.place x.routes.bits Outside a (get_or marks a 0)) (get_or marks a 0) (low a))
    where
      by : (b : Bool) (m : ℕ) → m ≤ suc i → cond b (suc (suc i)) m ≤ suc (suc i)
      by true m h = omega arith
      by false m h = omega arith

  level_same : (j : ℕ) → j ≤ suc i → stands_at arcs new j ≡ stands_at arcs marks j
  level_same j l = fun_ext (λ a. subst (λ m. (ltb a (length arcs) && (eqb m 0 || ltb j m)) ≡ stands_at arcs marks j a) (sym (each a)) (split_level (ltb a (length arcs)) (eqb (arc_at arcs a).place x.place && not (in_set x.routes.bits (arc_at arcs a).route)) (get_or marks a 0) (suc i) j (low a) l))

  record_there : (j : ℕ) → j < i → split_at (set splits i x) j ≡ split_at splits j
  record_there j l = get_or-set_other splits i j x no_split (omega arith)

  record_here : split_at (set splits i x) i ≡ x
  record_here = get_or-set_same splits i x no_split long

  -- on top the copy with the routes inside, under it the case with those outside, and the others as they were
  pub split_cases : cases_of arcs new (set splits i x) (suc (suc i)) ≡ inside arcs x.place x.routes.bits (stands_at arcs marks (suc i)) ∷ outside arcs x.place x.routes.bits (stands_at arcs marks (suc i)) ∷ cases_under arcs marks splits i
  split_cases =
      ap₂ ◌∷◌ (fun_ext (λ a. subst (λ m. (ltb a (length arcs) && (eqb m 0 || ltb (suc (suc i)) m)) ≡ inside arcs x.place x.routes.bits (stands_at arcs marks (suc i)) a) (sym (each a)) (split_top (ltb a (length arcs)) (eqb (arc_at arcs a).place x.place) (in_set x.routes.bits (arc_at arcs a).route) (get_or marks a 0) (suc i) (low a))))
      (ap₂ ◌∷◌ (ap₂ (left_by arcs) record_here (level_same (suc i) (omega arith))) (under_same arcs marks new splits (set splits i x) i (λ j l. level_same j (omega arith)) record_there))

-- CLOSE: the marks of the top go, and the case under it is left without what it gave

closed_top : (n p x : Bool) (m k : ℕ) → m ≤ suc k → 0 < k → (n && (eqb (cond (n && (eqb (lift_mark (suc k) m) 0 && (p && x))) k (lift_mark (suc k) m)) 0 || ltb k (cond (n && (eqb (lift_mark (suc k) m) 0 && (p && x))) k (lift_mark (suc k) m)))) ≡ ((n && (eqb m 0 || ltb k m)) && (not p || not x))
closed_top false p x m k h l = refl
closed_top true true true m k h l = grind (arith, nat_tests)
closed_top true true false m k h l = grind (arith, nat_tests)
closed_top true false x m k h l = grind (arith, nat_tests)

closed_level : (n e : Bool) (m k i : ℕ) → m ≤ suc k → i < k → (n && (eqb (cond (n && (eqb (lift_mark (suc k) m) 0 && e)) k (lift_mark (suc k) m)) 0 || ltb i (cond (n && (eqb (lift_mark (suc k) m) 0 && e)) k (lift_mark (suc k) m)))) ≡ (n && (eqb m 0 || ltb i m))
closed_level false e m k i h l = refl
closed_level true true m k i h l = grind (arith, nat_tests)
closed_level true false m k i h l = grind (arith, nat_tests)

module _ (arcs : List Arc) (marks new : List ℕ) (splits : List Split) (i : ℕ) (low : (a : ℕ) → get_or marks a 0 ≤ suc (suc i)) (each : (a : ℕ) → get_or new a 0 ≡ cut_mark arcs (split_at splits i).place (split_at splits i).routes.bits Inside (suc i) a (lift_mark (suc (suc i)) (get_or marks a 0))) where
  pub closed_cases : cases_of arcs new splits (suc i) ≡ cases_under arcs marks splits (suc i)
  closed_cases =
      ap₂ ◌∷◌ (fun_ext (λ a. subst (λ m. (ltb a (length arcs) && (eqb m 0 || ltb (suc i) m)) ≡ left_by arcs (split_at splits i) (stands_at arcs marks (suc i)) a) (sym (each a)) (closed_top (ltb a (length arcs)) (eqb (arc_at arcs a).place (split_at splits i).place) (in_set (split_at splits i).routes.bits (arc_at arcs a).route) (get_or marks a 0) (suc i) (low a) (omega arith))))
      (under_same arcs marks new splits splits i (λ j l. fun_ext (λ a. subst (λ m. (ltb a (length arcs) && (eqb m 0 || ltb j m)) ≡ stands_at arcs marks j a) (sym (each a)) (closed_level (ltb a (length arcs)) (eqb (arc_at arcs a).place (split_at splits i).place && in_set (split_at splits i).routes.bits (arc_at arcs a).route) (get_or marks a 0) (suc i) j (low a) (omega arith)))) (λ j l. refl))
