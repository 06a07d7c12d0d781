-- The working case as code sees it, and what no row on the number of rules tells. Assumes nothing.
use Rattle.std.proofs.Common.{◌≡◌, ℕ, ◌<◌, ◌≤◌, Bool, true, false, ◌&&◌, nat_lt, List, length, get_or, None, sym, refl, ap, ◌∙◌, inl, inr}
use mathlib.Core.Path.{fun_ext}
use Rattle.std.proofs.lemmas.Bool.{ltb-false, cases_lt, true≢false}
use Rattle.terms.specs.declared.refusal.Refusal.TheVariants.{TooManyRules}
use Rattle.plans.specs.Cases.{Case, on_some, kept}
use Rattle.ways.specs.Amounts.{marked}
use Rattle.rules.specs.Rules.{Rule}
use Rattle.judging.specs.Calls.{too_many_rules}
use Rattle.judging.proofs.Rows.{when_none}
use Rattle.casebooks.specs.Desks.{rules_alone}

-- marks that tell of each arc whether it is in a case are that case
pub same_case : (r : List Bool) (s : Case) → ((a : ℕ) → get_or r a false ≡ s a) → marked r ≡ s
same_case r s each = fun_ext each

-- what is left of a case by marks that keep the arcs on some plan of a list
pub kept_case : (s : Case) (ps : List (List ℕ)) (new : List Bool) (n : ℕ) → ((a : ℕ) → a < n → get_or new a false ≡ kept ps s a) → ((a : ℕ) → n ≤ a → s a ≡ false) → (λ a. s a && get_or new a false) ≡ kept ps s
kept_case s ps new n each beyond = fun_ext at
  where
    twice : (x y : Bool) → (x && (x && y)) ≡ (x && y)
    twice true y = refl
    twice false y = refl

    none : (x y z : Bool) → x ≡ false → (x && y) ≡ (x && z)
    none true y z e = absurd (true≢false e)
    none false y z e = refl

    at : (a : ℕ) → (s a && get_or new a false) ≡ kept ps s a
    at a = elim (cases_lt a n) [
      | inl l ↦ ap (λ b. s a && b) (each a l) ∙ twice (s a) (on_some ps a)
      | inr h ↦ none (s a) (get_or new a false) (on_some ps a) (beyond a h)
    ]

-- where the row on the number of rules does not hold, there are at most 128
pub few_rules : (us : List Rule) → None ≡ too_many_rules (rules_alone us) → length us ≤ 128
few_rules us e = ltb-false 128 (length us) (when_none (nat_lt 128 (length us)) TooManyRules (sym e))
