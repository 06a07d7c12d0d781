-- What is known wherever calls lead. Assumes nothing.
use Rattle.std.proofs.Common.{◌≡◌, ℕ, suc, true, List, [], ◌∷◌, ◌++◌, length, sym, ap, ◌∙◌, subst}
use mathlib.Core.Bool.{Bool-set}
use mathlib.Core.HLevel.{Π_prop, →_prop, ×_prop, Unit-prop}
use mathlib.Core.Logic.{∥∥₁_elim, ∥∥₁_prop}
use native.Mathlib.Nat.{ℕ_set}
use Rattle.std.specs.Coded.{le_prop}
use Rattle.terms.specs.declared.arc.Arc.{Arc}
use Rattle.plans.specs.Arcs.{arc_at}
use Rattle.plans.specs.Plans.{next, Path}
use Rattle.plans.specs.Cases.{Case}
use Rattle.rules.specs.Lawful.{Problem, Lawful}
use Rattle.judging.specs.Cases.{Model, opened}
use Rattle.judging.specs.Calls.{Call, after}
use Rattle.judging.specs.Theorem.{Posed, Meant, Sized}
use Rattle.judging.proofs.Finish.{run_both}
use Rattle.judging.proofs.Means.{meant}
use Rattle.judging.proofs.Sound.{Safe, covered, opened_safe, run_safe}
use Rattle.casebooks.specs.Reached.{Reached}

-- where calls lead, one call more leads
pub one_more : (t u : Problem) (m n : Model) (c : Call) → u ≡ t → n ≡ after t m c → ∥ Reached t m ∥₁ → ∥ Reached u n ∥₁
one_more t u m n c same left r = subst (λ p. ∥ Reached p n ∥₁) (sym same) (∥∥₁_elim r ∥∥₁_prop (λ x. ∣ more x ∣₁))
  where
    more : Reached t m → Reached t n
    more x = (x.0 ++ c ∷ [], left ∙ ap (λ (k : Model). after t k c) x.1 ∙ sym (run_both t x.0 (c ∷ []) (opened t)))

-- What holds after any calls has one proof at most.

path_prop : (arcs : List Arc) (k v : ℕ) (p : List ℕ) → IsProp (Path arcs k v p)
path_prop arcs k v [] = Unit-prop
path_prop arcs k v (a ∷ p) = ×_prop (Bool-set (next arcs k v a) true) (path_prop arcs (suc k) (arc_at arcs a).end p)

lawful_prop : (t : Problem) (p : List ℕ) → IsProp (Lawful t p)
lawful_prop t p a b i = record {
  plan = record {
    long = ℕ_set (length p) t.places a.plan.long b.plan.long i;
    path = path_prop t.arcs 1 0 p a.plan.path b.plan.path i;
  };
  allowed = Π_prop (λ r. Π_prop (λ l. Bool-set _ true)) a.allowed b.allowed i;
}

sized_prop : (n : ℕ) (cs : List Case) → IsProp (Sized n cs)
sized_prop n [] = Unit-prop
sized_prop n (s ∷ rest) = ×_prop le_prop (sized_prop n rest)

safe_prop : (t : Problem) (m : Model) → IsProp (Safe t m)
safe_prop t m a b i = record {
  claim = le_prop a.claim b.claim i;
  held = Π_prop (λ p. →_prop (lawful_prop t p)) a.held b.held i;
  cover = Π_prop (λ p. →_prop (→_prop (Bool-set (covered m.pile p) true))) a.cover b.cover i;
  sized = sized_prop (length t.arcs) m.pile a.sized b.sized i;
}

-- wherever calls lead, the verdict means what is said of it
pub reached_means : (t : Problem) → Posed t → (m : Model) → ∥ Reached t m ∥₁ → Meant t m
reached_means t posed m r =
    meant t posed m
    (∥∥₁_elim r (safe_prop t m) (λ x. subst (Safe t) (sym x.1) (run_safe t posed.chart.count x.0 (opened t) (opened_safe t posed.chart.count))))
