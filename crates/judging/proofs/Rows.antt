-- What is known where no row of refusals holds. Assumes nothing.
use Rattle.std.proofs.Common.{◌≡◌, ℕ, zero, suc, ◌<◌, Bool, true, false, cond, not, List, [], ◌∷◌, length, get_or, ℤ, is_ok, Some, None, Option, sym, refl, ◌∙◌, arith}
use Rattle.std.proofs.lemmas.List.{get_or-map, length-map}
use Rattle.std.proofs.lemmas.Bool.{not-false, not_from_true, not_from_false, eqb-true, true≢false}
use Rattle.terms.specs.declared.arc.Arc.{Arc}
use Rattle.terms.specs.declared.refusal.Refusal.{Refusal}
use Rattle.terms.specs.declared.refusal.Refusal.TheVariants.{MultiplierCount, MultiplierRange, OfferLength, NotConnected, BreaksRule}
use Rattle.terms.specs.Refusals.{when, naming, or_else, Outcome, decided}
use Rattle.plans.specs.Arcs.{arc_at}
use Rattle.plans.specs.Plans.{next, Path}
use Rattle.rules.specs.Rules.{Rule, no_rule}
use Rattle.rules.specs.Lawful.{Problem, Lawful, holds}
use Rattle.amounts.specs.Multipliers.{Fair, lowest}
use Rattle.amounts.proofs.Lowest.{first_none, lowest_found, lowest_none, fair_from}
use Rattle.judging.specs.Cases.{Model}
use Rattle.judging.specs.Calls.{too_many_rules, wrong_count, wrong_multiplier, multiplier_rows, wrong_length, stray, not_connected, broken, breaks_rule, offer_rows}

some_none : {V : Type 0} (v : V) {X : Type 0} → Some v ≡ None → X
some_none v e = let z : ◌≡◌ {A = ℕ} 0 1 = cc in absurd (omega arith)

-- what holds before a call, and after it if no row holds, holds after the call
pub decided_both : {S A : Type 0} (P : S → Type 0) (s : S) (o : Option Refusal) (done : Outcome S A) → P s → (o ≡ None → P done.left) → P (decided s o done).left
decided_both P s None done p q = q refl
decided_both P s (Some e) done p q = p

-- a call for which no row holds is done
pub decided_done : {S A : Type 0} (s : S) (o : Option Refusal) (done : Outcome S A) → o ≡ None → decided s o done ≡ done
decided_done s None done h = refl
decided_done s (Some e) done h = some_none e h

-- a call that is accepted met no row
pub accepted_none : {S A : Type 0} (s : S) (o : Option Refusal) (done : Outcome S A) → is_ok (decided s o done).answer ≡ true → o ≡ None
accepted_none s None done h = refl
accepted_none s (Some e) done h = absurd (true≢false (sym h))

-- neither of two rows holds
pub or_none : (x y : Option Refusal) → or_else x y ≡ None → (x ≡ None) × (y ≡ None)
or_none None y h = (refl, h)
or_none (Some e) y h = some_none e h

pub none_or : (x y : Option Refusal) → x ≡ None → y ≡ None → or_else x y ≡ None
none_or None y h k = k
none_or (Some e) y h k = h

-- a row that does not hold
pub when_none : (b : Bool) (e : Refusal) → when b e ≡ None → b ≡ false
when_none true e h = some_none e h
when_none false e h = refl

pub naming_none : {V : Type 0} (e : V → Refusal) (o : Option V) → naming e o ≡ None → o ≡ None
naming_none e None h = refl
naming_none e (Some v) h = some_none (e v) h

-- multipliers that no row refuses are fair
pub multipliers_fair : (t : Problem) (zs : List ℤ) → multiplier_rows t zs ≡ None → Fair t.rules zs
multipliers_fair t zs h =
    let r = or_none (too_many_rules t) _ h in
    let s = or_none (wrong_count t zs) _ r.1 in
    let u = or_none (wrong_multiplier t zs) None s.1 in
    fair_from t.rules zs
    (eqb-true (length zs) (length t.rules) (not-false _ (when_none _ MultiplierCount s.0)))
    (naming_none MultiplierRange _ u.0)

-- arcs none of which strays are a partial plan
stray_by : (b : Bool) (o : Option ℕ) (k : ℕ) → cond b o (Some k) ≡ None → (b ≡ true) × (o ≡ None)
stray_by true o k h = (refl, h)
stray_by false o k h = some_none k h

pub stray_none : (arcs : List Arc) (k v : ℕ) (p : List ℕ) → stray arcs k v p ≡ None → Path arcs k v p
stray_none arcs k v [] h = tt
stray_none arcs k v (a ∷ p) h =
    let r = stray_by (next arcs k v a) (stray arcs (suc k) (arc_at arcs a).end p) k h in
    (r.0, stray_none arcs (suc k) (arc_at arcs a).end p r.1)

-- whether a plan breaks rule r
pub broken_at : (arcs : List Arc) (p : List ℕ) (us : List Rule) (r : ℕ) → r < length us → get_or (broken arcs p us) r false ≡ not (holds arcs p (get_or us r no_rule))
broken_at arcs p us r l = get_or-map (λ (u : Rule). not (holds arcs p u)) us r no_rule false l

-- where a plan breaks no rule, each holds
pub broken_none : (arcs : List Arc) (p : List ℕ) (us : List Rule) → lowest (broken arcs p us) ≡ None → (r : ℕ) → r < length us → holds arcs p (get_or us r no_rule) ≡ true
broken_none arcs p [] h r l = absurd (omega arith)
broken_none arcs p (u ∷ us) h zero l = not-false (holds arcs p u) (first_none (not (holds arcs p u)) (lowest (broken arcs p us)) h).0
broken_none arcs p (u ∷ us) h (suc r) l = broken_none arcs p us (first_none (not (holds arcs p u)) (lowest (broken arcs p us)) h).1 r (omega arith)

-- a search by number: the lowest rule that a plan breaks, all before it holding
pub broken_found : (arcs : List Arc) (p : List ℕ) (us : List Rule) (r : ℕ) → r < length us → holds arcs p (get_or us r no_rule) ≡ false → ((k : ℕ) → k < r → holds arcs p (get_or us k no_rule) ≡ true) → lowest (broken arcs p us) ≡ Some r
broken_found arcs p us r l h g =
    lowest_found (broken arcs p us) r
    (broken_at arcs p us r l ∙ not_from_false _ h)
    (λ k i. broken_at arcs p us k (omega arith) ∙ not_from_true _ (g k i))

-- and no such rule, all holding
pub holding_none : (arcs : List Arc) (p : List ℕ) (us : List Rule) → ((k : ℕ) → k < length us → holds arcs p (get_or us k no_rule) ≡ true) → lowest (broken arcs p us) ≡ None
holding_none arcs p us g =
    lowest_none (broken arcs p us) (λ k i.
    let l : k < length us = omega (arith, length-map us (λ (u : Rule). not (holds arcs p u))) in
    broken_at arcs p us k l ∙ not_from_true _ (g k l))

-- an offer that no row refuses is a lawful plan
pub offer_lawful : (t : Problem) (m : Model) (p : List ℕ) → offer_rows t m p ≡ None → Lawful t p
offer_lawful t m p h =
    let a = or_none (too_many_rules t) _ h in
    let b = or_none (wrong_length t p) _ a.1 in
    let c = or_none (not_connected t p) _ b.1 in
    let d = or_none (breaks_rule t p) _ c.1 in
    record {
      plan = record {
        long = eqb-true (length p) t.places (not-false _ (when_none _ OfferLength b.0));
        path = stray_none t.arcs 1 0 p (naming_none NotConnected _ c.0);
      };
      allowed = broken_none t.arcs p t.rules (naming_none BreaksRule _ d.0);
    }
