-- What a trace leaves in a buffer. Assumes nothing.
use Rattle.std.proofs.Common.{◌≡◌, ℕ, ◌≤◌, Bool, true, false, List, ◌++◌, length, take, drop, ℤ, nat_abs, Some, None, Option, sym, refl, ap, ◌∙◌, arith}
use Rattle.std.proofs.lemmas.List.{take-append-drop}
use Rattle.std.proofs.lemmas.Bool.{true≢false}
use Rattle.terms.specs.declared.arc.Arc.{Arc}
use Rattle.plans.specs.Arcs.{Sealed}
use Rattle.plans.specs.Cases.{Case, standing}
use Rattle.plans.specs.Firsts.{foremost, cheapest, amount_in, written, is_there}
use Rattle.tallies.specs.Laws.{steep}
use Rattle.ways.specs.Sums.{price_sum, leasts, reaches}
use Rattle.ways.specs.Traces.{Outcome}
use Rattle.ways.proofs.Firsts.{least_standing, least_traced, reach_standing, reach_traced}

-- a plan of n arcs in the first places, and the rest as it was
wrote : (n : ℕ) (old new : List ℕ) → length (take n new) ≡ n → drop n new ≡ drop n old → new ≡ written (Some (take n new)) old
wrote n old new long rest =
    sym (take-append-drop n new) ∙ ap (λ xs. take n new ++ xs) (rest ∙ ap (λ m. drop m old) (sym long))

no_plan_lem : (f : List ℕ → ℤ) (o : Option (List ℕ)) → amount_in f o ≡ None → o ≡ None
no_plan_lem f None e = refl
no_plan_lem f (Some p) e = let z : ◌≡◌ {A = ℕ} 0 1 = cc in absurd (omega arith)

not_there : (o : Option (List ℕ)) → is_there o ≡ false → o ≡ None
not_there None e = refl
not_there (Some p) e = absurd (true≢false e)

module _ (n : ℕ) (arcs : List Arc) (sealed : Sealed n arcs) (s : Case) (price : ℕ → ℤ) (small : (a : ℕ) → nat_abs (price a) ≤ steep) (old new : List ℕ) where
  pub least_wrote : (r : Bool) → Outcome leasts n arcs s price old new r → new ≡ written (cheapest (price_sum price) (standing n arcs s)) old
  least_wrote false (none, same) =
      same ∙ ap (λ (o : Option (List ℕ)). written o old) (sym (no_plan_lem (price_sum price) (cheapest (price_sum price) (standing n arcs s)) (sym (least_standing price n arcs s) ∙ none)))
  least_wrote true (some, traced, plan, rest) =
      wrote n old new plan.stands.plan.long rest ∙ ap (λ (o : Option (List ℕ)). written o old) (sym (least_traced price n arcs sealed s small (take n new) traced))

  pub reach_wrote : (r : Bool) → Outcome reaches n arcs s price old new r → new ≡ written (foremost (standing n arcs s)) old
  reach_wrote false (none, same) =
      same ∙ ap (λ (o : Option (List ℕ)). written o old) (sym (not_there (foremost (standing n arcs s)) (sym (reach_standing price n arcs s) ∙ none)))
  reach_wrote true (some, traced, plan, rest) =
      wrote n old new plan.stands.plan.long rest ∙ ap (λ (o : Option (List ℕ)). written o old) (sym (reach_traced price n arcs sealed s small (take n new) traced))

  pub reach_answer : (r : Bool) → Outcome reaches n arcs s price old new r → r ≡ is_there (foremost (standing n arcs s))
  reach_answer false (none, same) = sym none ∙ reach_standing price n arcs s
  reach_answer true (some, traced, plan, rest) = sym (ap is_there (reach_traced price n arcs sealed s small (take n new) traced))
