-- The loops over the marks. Assumes nothing.
use Rattle.std.proofs.Common.{◌≡◌, ℕ, zero, suc, ◌<◌, ◌≤◌, Bool, true, false, ◌&&◌, ◌||◌, eqb, ltb, List, [], ◌∷◌, length, get_or, replicate, sym, refl, ap, ◌∙◌, inl, inr, arith}
use mathlib.Core.Path.{fun_ext}
use Rattle.std.specs.Bool.{MatchBool}
use Rattle.std.specs.List.{list_any, zip, HoldsAt, AllWithin}
use Rattle.std.proofs.lemmas.Bool.Decides.{nat_tests}
use Rattle.std.proofs.lemmas.List.Folds.{list_any_at, list_any_none}
use Rattle.plans.specs.Arcs.{arc_at}
use Rattle.std.proofs.lemmas.List.{length-replicate, get_or-replicate, get_or_past}
use Rattle.std.proofs.lemmas.Bool.{cases_lt}
use Rattle.terms.specs.declared.arc.Arc.{Arc}
use Rattle.terms.specs.Routes.{in_set}
use Rattle.plans.specs.Cases.{Case, any}
use Rattle.piles.specs.declared.pile.Side.{Side}
use Rattle.piles.specs.Heights.{on_side, sided}

-- an array that was filled with a value has it everywhere, also past its end
pub filled : {A : Type 0} (n : ℕ) (x : A) (a : ℕ) → get_or (replicate n x) a x ≡ x
filled n x a = elim (cases_lt a n) [ inl l ↦ get_or-replicate n a x x l | inr h ↦ get_or_past (replicate n x) a x (long a h) ]
  where
    long : (a : ℕ) → n ≤ a → length (replicate n x) ≤ a
    long a h = omega (arith, length-replicate n x)

-- whether a case has an arc, the first arc looked at first
any_front : (s : Case) (n : ℕ) → any s (suc n) ≡ (s 0 || any (λ a. s (suc a)) n)
any_front s zero = refl
any_front s (suc n) = ap (λ b. s (suc n) || b) (any_front s n) ∙ turn (s (suc n)) (s 0) (any (λ a. s (suc a)) n)
  where
    turn : (x y z : Bool) → (x || (y || z)) ≡ (y || (x || z))
    turn true true z = refl
    turn true false z = refl
    turn false y z = refl

first : (n : ℕ) → true ≡ ltb 0 (suc n)
first n = grind (arith, nat_tests)

up : (a n : ℕ) → ltb a n ≡ ltb (suc a) (suc n)
up a n = grind (arith, nat_tests)

-- what is asked of each mark beside its arc is what is asked of the arc by its number
pub any_zipped : (marks : List ℕ) (arcs : List Arc) (k routes : ℕ) (side : Side) → length arcs ≤ length marks → list_any (λ (x : ℕ × Arc). eqb x.0 0 && (eqb x.1.place k && on_side side (in_set routes x.1.route))) (zip marks arcs) ≡ any (λ a. sided arcs k routes side a (get_or marks a 0)) (length arcs)
any_zipped [] [] k routes side h = refl
any_zipped [] (x ∷ arcs) k routes side h = absurd (omega arith)
any_zipped (m ∷ marks) [] k routes side h = refl
any_zipped (m ∷ marks) (x ∷ arcs) k routes side h =
    ap (λ b. here || b) (any_zipped marks arcs k routes side (omega arith) ∙ ap (λ (s : Case). any s (length arcs)) (fun_ext later))
    ∙ ap (λ b. (b && here) || any (λ a. sided (x ∷ arcs) k routes side (suc a) (get_or (m ∷ marks) (suc a) 0)) (length arcs)) (first (length arcs))
    ∙ sym (any_front (λ a. sided (x ∷ arcs) k routes side a (get_or (m ∷ marks) a 0)) (length arcs))
  where
    here : Bool
    here = eqb m 0 && (eqb x.place k && on_side side (in_set routes x.route))

    later : (a : ℕ) → sided arcs k routes side a (get_or marks a 0) ≡ sided (x ∷ arcs) k routes side (suc a) (get_or (m ∷ marks) (suc a) 0)
    later a = ap (λ b. b && (eqb (get_or marks a 0) 0 && (eqb (arc_at arcs a).place k && on_side side (in_set routes (arc_at arcs a).route)))) (up a (length arcs))

-- what a search for an element that passes a test answers
pub any_told : {X : Type 0} (test : X → Bool) (xs : List X) (r : Bool) → MatchBool r ((k : ℕ) × (k < length xs) × HoldsAt (λ x. test x ≡ true) xs k) (AllWithin (λ x. test x ≡ false) xs 0 (length xs)) → r ≡ list_any test xs
any_told test [] true m = absurd (omega arith)
any_told test (x ∷ xs) true m = sym (list_any_at test (x ∷ xs) m.0 x m.1 (m.2 x))
any_told test xs false m = sym (list_any_none test xs (λ k d l. m k d (omega arith) l))
