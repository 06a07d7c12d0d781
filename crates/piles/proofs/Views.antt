-- The calls on a pile of any height. Assumes nothing.
use Rattle.std.proofs.Common.{◌≡◌, ℕ, zero, suc, ◌+◌, ◌-◌, ◌<◌, ◌≤◌, Bool, true, false, not, ◌&&◌, ◌||◌, eqb, ltb, List, ◌∷◌, length, get_or, set, refl, ap, ◌∙◌, ap₂, add-one, arith}
use mathlib.Core.Path.{fun_ext}
use Rattle.std.proofs.lemmas.Bool.Decides.{nat_tests}
use Rattle.terms.specs.declared.arc.Arc.{Arc}
use Rattle.terms.specs.Routes.{in_set}
use Rattle.plans.specs.Arcs.{arc_at}
use Rattle.plans.specs.Cases.{Case, any}
use Rattle.judging.specs.Cases.{at_place, inside, outside, top, under}
use Rattle.judging.specs.Calls.{one_sided}
use Rattle.piles.specs.declared.pile.Split.{Split}
use Rattle.piles.specs.declared.pile.Side.TheVariants.{Inside, Outside}
use Rattle.piles.specs.Heights.{split_at, stands_at, cases_of, sided, cut_mark, lift_mark, keep_mark}
use Rattle.piles.proofs.Heights.{kept_cases, split_low, split_cases, closed_cases}

module _ (arcs : List Arc) (marks : List ℕ) (splits : List Split) where
  -- a case is open on a pile of a height
  abbrev Open : ℕ → Type 0
  Open k = 0 < length (cases_of arcs marks splits k)

  -- no arc left above a height
  abbrev Low : ℕ → Type 0
  Low k = (a : ℕ) → get_or marks a 0 ≤ k

  -- the marks after arcs of the working case that are not kept have left
  abbrev Kept : ℕ → List ℕ → List Bool → Type 0
  Kept k new keep = (a : ℕ) → get_or new a 0 ≡ keep_mark (length arcs) keep k a (get_or marks a 0)

  pub keep_view : (k : ℕ) → Open k → Low k → (new : List ℕ) (keep : List Bool) → Kept k new keep → cases_of arcs new splits k ≡ (λ a. top (cases_of arcs marks splits k) a && get_or keep a false) ∷ under (cases_of arcs marks splits k)
  keep_view zero o low new keep each = absurd (omega arith)
  keep_view (suc i) o low new keep each = kept_cases arcs marks new splits keep i low each

  -- what the loops ask of each side is what the definition asks
  side_same : (k : ℕ) (n p x : Bool) (m : ℕ) → m ≤ k → (n && (eqb m 0 && (p && x))) ≡ (((n && (eqb m 0 || ltb k m)) && (not p || x)) && p)
  side_same k false p x m h = refl
  side_same k true true true m h = grind (arith, nat_tests)
  side_same k true true false m h = grind (arith, nat_tests)
  side_same k true false x m h = grind (arith, nat_tests)

  any_same : (s r : Case) → ((a : ℕ) → s a ≡ r a) → (n : ℕ) → any s n ≡ any r n
  any_same s r e n = ap (λ (f : Case). any f n) (fun_ext e)

  pub sides_view : (k : ℕ) → Open k → Low k → (place routes : ℕ) (x y : Bool) → x ≡ any (λ a. sided arcs place routes Inside a (get_or marks a 0)) (length arcs) → y ≡ any (λ a. sided arcs place routes Outside a (get_or marks a 0)) (length arcs) → not (x && y) ≡ one_sided arcs place routes (top (cases_of arcs marks splits k))
  sides_view zero o low place routes x y e f = absurd (omega arith)
  sides_view (suc i) o low place routes x y e f =
      ap₂ (λ (b d : Bool). not (b && d)) (e ∙ any_same _ _ inn (length arcs)) (f ∙ any_same _ _ out (length arcs))
    where
      inn : (a : ℕ) → sided arcs place routes Inside a (get_or marks a 0) ≡ at_place arcs place (inside arcs place routes (stands_at arcs marks (suc i))) a
      inn a = side_same (suc i) (ltb a (length arcs)) (eqb (arc_at arcs a).place place) (in_set routes (arc_at arcs a).route) (get_or marks a 0) (low a)

      out : (a : ℕ) → sided arcs place routes Outside a (get_or marks a 0) ≡ at_place arcs place (outside arcs place routes (stands_at arcs marks (suc i))) a
      out a = side_same (suc i) (ltb a (length arcs)) (eqb (arc_at arcs a).place place) (not (in_set routes (arc_at arcs a).route)) (get_or marks a 0) (low a)

  -- the marks after arcs outside the set have left for the height above
  abbrev Cut : ℕ → Split → List ℕ → Type 0
  Cut k x new = (a : ℕ) → get_or new a 0 ≡ cut_mark arcs x.place x.routes.bits Outside (k + 1) a (get_or marks a 0)

  -- the same, as the lemmas on heights count
  cut_up : (i : ℕ) (x : Split) (new : List ℕ) → Cut (suc i) x new → (a : ℕ) → get_or new a 0 ≡ cut_mark arcs x.place x.routes.bits Outside (suc (suc i)) a (get_or marks a 0)
  cut_up i x new each a = each a ∙ ap (λ n. cut_mark arcs x.place x.routes.bits Outside n a (get_or marks a 0)) (add-one (suc i))

  pub split_low_view : (k : ℕ) → Open k → Low k → (x : Split) (new : List ℕ) → k ≤ length splits → Cut k x new → (a : ℕ) → get_or new a 0 ≤ k + 1
  split_low_view zero o low x new long each a = absurd (omega arith)
  split_low_view (suc i) o low x new long each a =
      omega (arith, split_low arcs marks new splits x i (omega arith) low (cut_up i x new each) a)

  pub split_view : (k : ℕ) → Open k → Low k → (x : Split) (new : List ℕ) → k ≤ length splits → Cut k x new → cases_of arcs new (set splits (k - 1) x) (k + 1) ≡ inside arcs x.place x.routes.bits (top (cases_of arcs marks splits k)) ∷ outside arcs x.place x.routes.bits (top (cases_of arcs marks splits k)) ∷ under (cases_of arcs marks splits k)
  split_view zero o low x new long each = absurd (omega arith)
  split_view (suc i) o low x new long each =
      let down : suc i - 1 ≡ i = omega arith in
      ap₂ (λ j n. cases_of arcs new (set splits j x) n) down (add-one (suc i))
      ∙ split_cases arcs marks new splits x i (omega arith) low (cut_up i x new each)

-- the working case is closed, with others under it
module _ (arcs : List Arc) (marks lifted new : List ℕ) (splits : List Split) where
  abbrev Steps : ℕ → Type 0
  Steps k = (a : ℕ) → get_or new a 0 ≡ cut_mark arcs (split_at splits (k - 2)).place (split_at splits (k - 2)).routes.bits Inside (k - 1) a (get_or lifted a 0)

  together : (i : ℕ) → ((a : ℕ) → get_or lifted a 0 ≡ lift_mark (suc (suc i)) (get_or marks a 0)) → Steps (suc (suc i)) → (a : ℕ) → get_or new a 0 ≡ cut_mark arcs (split_at splits i).place (split_at splits i).routes.bits Inside (suc i) a (lift_mark (suc (suc i)) (get_or marks a 0))
  together i one two a =
      let down : suc (suc i) - 1 ≡ suc i = omega arith in
      let lower : suc (suc i) - 2 ≡ i = omega arith in
      two a ∙ ap₂ (λ j h. cut_mark arcs (split_at splits j).place (split_at splits j).routes.bits Inside h a (get_or lifted a 0)) lower down ∙ ap (λ m. cut_mark arcs (split_at splits i).place (split_at splits i).routes.bits Inside (suc i) a m) (one a)

  pub close_view : (k : ℕ) → 1 < k → ((a : ℕ) → get_or marks a 0 ≤ k) → ((a : ℕ) → get_or lifted a 0 ≡ lift_mark k (get_or marks a 0)) → Steps k → cases_of arcs new splits (k - 1) ≡ under (cases_of arcs marks splits k)
  close_view zero h low one two = absurd (omega arith)
  close_view (suc zero) h low one two = absurd (omega arith)
  close_view (suc (suc i)) h low one two =
      let down : suc (suc i) - 1 ≡ suc i = omega arith in
      ap (cases_of arcs new splits) down ∙ closed_cases arcs marks new splits i low (together i one two)
