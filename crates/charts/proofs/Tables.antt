-- A chart without arcs, and one more arc in a chart. Assumes nothing.
use Rattle.std.proofs.Common.{◌≡◌, ℕ, ◌-◌, ◌<◌, ◌≤◌, List, [], ◌∷◌, ◌++◌, length, get_or, sym, refl, subst, inl, inr, arith, length-append}
use Rattle.std.proofs.lemmas.List.{get_or_append_left, get_or-append_right}
use Rattle.std.proofs.lemmas.Bool.{cases_lt}
use Rattle.terms.specs.declared.arc.Arc.{Arc}
use Rattle.plans.specs.Arcs.{no_arc, Sealed, ArcInRange}

-- a chart without arcs
pub bare : (n : ℕ) → 1 ≤ n → n ≤ 32 → Sealed n []
bare n h k = record { some = h; few = k; count = omega arith; arc = λ a l. absurd (omega arith) }

-- one more arc in range
pub one_more : (n : ℕ) (arcs : List Arc) (x : Arc) → Sealed n arcs → length arcs < 1024 → ArcInRange n x → Sealed n (arcs ++ x ∷ [])
one_more n arcs x s h r = record {
  some = s.some;
  few = s.few;
  count = omega (arith, length-append arcs (x ∷ []));
  arc = λ a l. elim (cases_lt a (length arcs)) [
    | inl below ↦ subst (ArcInRange n) (sym (get_or_append_left arcs (x ∷ []) no_arc a below)) (s.arc a below)
    | inr behind ↦
        let last : a ≡ length arcs = omega (arith, length-append arcs (x ∷ [])) in
        let first : 0 ≡ a - length arcs = omega arith in
        subst (ArcInRange n) (sym (get_or-append_right arcs (x ∷ []) (length arcs) a no_arc refl behind)) (subst (λ (k : ℕ). ArcInRange n (get_or (x ∷ []) k no_arc)) first r)
  ];
}
