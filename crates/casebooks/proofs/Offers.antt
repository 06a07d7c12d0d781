-- An offered plan, arc by arc. Assumes nothing.
use Rattle.std.proofs.Common.{◌≡◌, ℕ, zero, suc, ◌+◌, ◌<◌, ◌≤◌, List, [], ◌∷◌, ◌++◌, length, get_or, take, ℤ, pos, ◌+ℤ◌, ◌-ℤ◌, neg_ℤ, nat_abs, sym, refl, ap, ◌∙◌, subst, arith, w64, SFits, to_z, of_z}
use Rattle.std.specs.List.{sum_by}
use Rattle.std.proofs.lemmas.List.Sums.{sum_by-cons}
use Rattle.std.proofs.lemmas.List.{take_more}
use Rattle.terms.specs.declared.arc.Arc.{Arc}
use Rattle.plans.specs.Arcs.{arc_at}
use Rattle.plans.specs.Plans.{Path, cost}
use Rattle.plans.proofs.Steps.{next_there}
use Rattle.rules.specs.Rules.{Rule}
use Rattle.rules.specs.Lawful.{weighed}
use Rattle.std.proofs.lemmas.Int.{ints, to_z-of_z}
use Rattle.amounts.proofs.Sizes.{fits, add_size, neg_size}

-- the cost of a plan is the sum of its arcs' minutes
pub cost_summed : (arcs : List Arc) (p : List ℕ) → sum_by (λ a. (arc_at arcs a).minutes) p ≡ cost arcs p
cost_summed arcs [] = refl
cost_summed arcs (a ∷ p) = sum_by-cons _ a p ∙ ap (λ n. (arc_at arcs a).minutes + n) (cost_summed arcs p)

-- one arc more in the sum of a rule's weights
module _ (arcs : List Arc) (u : Rule) where
  weighed_push : (p : List ℕ) (a : ℕ) → weighed arcs u (p ++ a ∷ []) ≡ weighed arcs u p +ℤ u.weight (arc_at arcs a).place (arc_at arcs a).route
  weighed_push [] a = turn (u.weight (arc_at arcs a).place (arc_at arcs a).route)
    where
      turn : (x : ℤ) → x +ℤ pos 0 ≡ pos 0 +ℤ x
      turn x = omega (arith, ints)
  weighed_push (b ∷ p) a = ap (λ z. u.weight (arc_at arcs b).place (arc_at arcs b).route +ℤ z) (weighed_push p a) ∙ regroup (u.weight (arc_at arcs b).place (arc_at arcs b).route) (weighed arcs u p) (u.weight (arc_at arcs a).place (arc_at arcs a).route)
    where
      regroup : (x y z : ℤ) → x +ℤ (y +ℤ z) ≡ (x +ℤ y) +ℤ z
      regroup x y z = omega (arith, ints)

  pub weighed_more : (p : List ℕ) (i : ℕ) → i < length p → weighed arcs u (take (i + 1) p) ≡ weighed arcs u (take i p) +ℤ u.weight (arc_at arcs (get_or p i 0)).place (arc_at arcs (get_or p i 0)).route
  weighed_more p i l = ap (weighed arcs u) (take_more p i 0 l) ∙ weighed_push (take i p) (get_or p i 0)

-- the arcs of a connected plan are there
pub path_there : (arcs : List Arc) (p : List ℕ) (k v : ℕ) → Path arcs k v p → (i : ℕ) → i < length p → get_or p i 0 < length arcs
path_there arcs [] k v h i l = absurd (omega arith)
path_there arcs (a ∷ p) k v h zero l = next_there arcs k v a h.0
path_there arcs (a ∷ p) k v h (suc i) l = path_there arcs p (suc k) (arc_at arcs a).end h.1 i (omega arith)

-- a total as code forms it, from a sum and a limit of 64 bits
module _ (w l : ℤ) (a : nat_abs w ≤ 320000) (b : nat_abs l ≤ 1000000) where
  total_same : to_z w64 (of_z w64 w) -ℤ to_z w64 (of_z w64 l) ≡ w -ℤ l
  total_same =
      let e = to_z-of_z w64 w (fits w 320000 a (omega arith)) in
      let f = to_z-of_z w64 l (fits l 1000000 b (omega arith)) in
      cc

  total_size : nat_abs (w -ℤ l) ≤ 1320000
  total_size = omega (arith, add_size w (neg_ℤ l), neg_size l)

  pub total_fits : SFits w64 (to_z w64 (of_z w64 w) -ℤ to_z w64 (of_z w64 l))
  total_fits = subst (SFits w64) (sym total_same) (fits (w -ℤ l) 1320000 total_size (omega arith))

  pub total_is : to_z w64 (of_z w64 (to_z w64 (of_z w64 w) -ℤ to_z w64 (of_z w64 l))) ≡ w -ℤ l
  total_is = to_z-of_z w64 _ total_fits ∙ total_same
