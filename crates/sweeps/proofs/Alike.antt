-- Prices and marks that are all alike. Assumes nothing.
use Rattle.std.proofs.Common.{◌≡◌, ℕ, ◌≤◌, Bool, List, [], ◌∷◌, length, get_or, replicate, pos, nat_abs, sym, refl, inl, inr, subst, arith, zero, suc}
use Rattle.std.proofs.lemmas.List.{get_or-replicate, get_or_past, length-replicate}
use Rattle.std.specs.List.{FoldsTo}
use Rattle.std.proofs.lemmas.Bool.{cases_lt}
use Rattle.terms.specs.declared.arc.Arc.{Arc}
use Rattle.tallies.specs.Laws.{steep}
use Rattle.ways.specs.Amounts.{Sweepable}

-- what is read of a list of one value alone, and past it by default, is that value
pub alike : {A : Type 0} (m a : ℕ) (x : A) → get_or (replicate m x) a x ≡ x
alike m a x = elim (cases_lt a m) [ inl l ↦ get_or-replicate m a x x l | inr h ↦ get_or_past (replicate m x) a x (omega (arith, length-replicate m x)) ]

-- so is what calls have written that each gave one value
pub all_given : {P A : Type 0} (R : P → A → P → Type 0) (y : A) → ((p : P) (x : A) (q : P) → R p x q → x ≡ y) → (xs : List A) (p q : P) → FoldsTo R p xs q → (a : ℕ) → get_or xs a y ≡ y
all_given R y each [] p q h a = refl
all_given R y each (x ∷ xs) p q (j, r, h) zero = each p x j r
all_given R y each (x ∷ xs) p q (j, r, h) (suc a) = all_given R y each xs j q h a

-- a price of 0 for each arc
pub unpriced : (arcs : List Arc) (on : List Bool) (m : ℕ) → length arcs ≤ length on → length arcs ≤ m → Sweepable arcs on (replicate m (pos 0))
unpriced arcs on m marks few = record {
  marks = marks;
  priced = omega (arith, length-replicate m (pos 0));
  small = λ a. subst (λ z. nat_abs z ≤ steep) (sym (alike m a (pos 0))) (omega arith);
}
