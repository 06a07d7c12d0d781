-- The lowest rule with an unfair multiplier, as a search by number finds it. Assumes nothing.
use Rattle.std.proofs.Common.{◌≡◌, ℕ, zero, suc, ◌<◌, ◌≤◌, Bool, true, false, cond, not, List, [], ◌∷◌, length, get_or, ℤ, pos, neg_ℤ, nat_abs, Some, None, Option, sym, refl, ap, ◌∙◌, arith}
use lib.Signed.{le_z}
use Rattle.std.proofs.lemmas.Int.{ints}
use Rattle.std.proofs.lemmas.Bool.{and_parts, true≢false, not-false, not_from_true, not_from_false}
use Rattle.terms.specs.declared.rule.Sense.{Sense}
use Rattle.terms.specs.declared.rule.Sense.TheVariants.{AtMost, Exactly}
use Rattle.plans.proofs.Whole.{le_z_true}
use Rattle.rules.specs.Rules.{Rule, no_rule}
use Rattle.amounts.specs.Multipliers.{fair, Fair, unfair, later, lowest}

some_none : {V : Type 0} (v : V) {X : Type 0} → Some v ≡ None → X
some_none v e = let z : ◌≡◌ {A = ℕ} 0 1 = cc in absurd (omega arith)

later_none : (o : Option ℕ) → later o ≡ None → o ≡ None
later_none None e = refl
later_none (Some r) e = some_none (suc r) e

later_zero : {X : Type 0} (o : Option ℕ) → later o ≡ Some zero → X
later_zero None e = some_none zero (sym e)
later_zero (Some r) e = let z : suc r ≡ 0 = cc in absurd (omega arith)

later_suc : (o : Option ℕ) (r : ℕ) → later o ≡ Some (suc r) → o ≡ Some r
later_suc None r e = some_none (suc r) (sym e)
later_suc (Some q) r e = let z : suc q ≡ suc r = cc in let s : q ≡ r = omega arith in ap (λ (x : ℕ). Some x) s

-- no position: the first is not true, and none later is
pub first_none : (b : Bool) (o : Option ℕ) → cond b (Some 0) (later o) ≡ None → (b ≡ false) × (o ≡ None)
first_none true o e = some_none 0 e
first_none false o e = (refl, later_none o e)

pub none_first : (b : Bool) (o : Option ℕ) → b ≡ false → o ≡ None → cond b (Some 0) (later o) ≡ None
none_first true o e f = absurd (true≢false e)
none_first false o e f = ap later f

-- where one is true and none before it, that is the lowest
pub lowest_found : (bs : List Bool) (r : ℕ) → get_or bs r false ≡ true → ((k : ℕ) → k < r → get_or bs k false ≡ false) → lowest bs ≡ Some r
lowest_found [] r e h = absurd (true≢false (sym e))
lowest_found (b ∷ bs) zero e h = rw e refl
lowest_found (b ∷ bs) (suc r) e h =
    ap (λ (x : Bool). cond x (Some 0) (later (lowest bs))) (h 0 (omega arith)) ∙ ap later (lowest_found bs r e (λ k l. h (suc k) (omega arith)))

-- where none is true, there is no lowest
pub lowest_none : (bs : List Bool) → ((k : ℕ) → k < length bs → get_or bs k false ≡ false) → lowest bs ≡ None
lowest_none [] h = refl
lowest_none (b ∷ bs) h = none_first b (lowest bs) (h 0 (omega arith)) (lowest_none bs (λ k l. h (suc k) (omega arith)))

-- the lowest is true
pub lowest_true : (bs : List Bool) (r : ℕ) → lowest bs ≡ Some r → get_or bs r false ≡ true
lowest_true [] r e = some_none r (sym e)
lowest_true (true ∷ bs) zero e = refl
lowest_true (true ∷ bs) (suc r) e = let z : ◌≡◌ {A = ℕ} 0 (suc r) = cc in absurd (omega arith)
lowest_true (false ∷ bs) zero e = later_zero (lowest bs) e
lowest_true (false ∷ bs) (suc r) e = lowest_true bs r (later_suc (lowest bs) r e)

-- none before it is
pub lowest_before : (bs : List Bool) (r : ℕ) → lowest bs ≡ Some r → (k : ℕ) → k < r → get_or bs k false ≡ false
lowest_before [] r e k l = refl
lowest_before (true ∷ bs) r e k l = let z : ◌≡◌ {A = ℕ} 0 r = cc in absurd (omega arith)
lowest_before (false ∷ bs) r e zero l = refl
lowest_before (false ∷ bs) zero e (suc k) l = absurd (omega arith)
lowest_before (false ∷ bs) (suc r) e (suc k) l = lowest_before bs r (later_suc (lowest bs) r e) k (omega arith)

-- the lowest is a position of the list
pub lowest_below : (bs : List Bool) (r : ℕ) → lowest bs ≡ Some r → r < length bs
lowest_below [] r e = some_none r (sym e)
lowest_below (true ∷ bs) r e = let z : ◌≡◌ {A = ℕ} 0 r = cc in omega arith
lowest_below (false ∷ bs) zero e = omega arith
lowest_below (false ∷ bs) (suc r) e = omega (arith, lowest_below bs r (later_suc (lowest bs) r e))

-- where there is no lowest, none is true
pub none_lowest : (bs : List Bool) → lowest bs ≡ None → (k : ℕ) → get_or bs k false ≡ false
none_lowest [] e k = refl
none_lowest (b ∷ bs) e zero = (first_none b (lowest bs) e).0
none_lowest (b ∷ bs) e (suc k) = none_lowest bs (first_none b (lowest bs) e).1 k

-- the test of rule r, and how many tests there are
pub unfair_at : (us : List Rule) (zs : List ℤ) → length zs ≡ length us → (r : ℕ) → r < length us → get_or (unfair us zs) r false ≡ not (fair (get_or us r no_rule).sense (get_or zs r (pos 0)))
unfair_at [] zs e r l = absurd (omega arith)
unfair_at (u ∷ us) [] e r l = absurd (omega arith)
unfair_at (u ∷ us) (z ∷ zs) e zero l = refl
unfair_at (u ∷ us) (z ∷ zs) e (suc r) l = unfair_at us zs (omega arith) r (omega arith)

pub unfair_length : (us : List Rule) (zs : List ℤ) → length zs ≡ length us → length (unfair us zs) ≡ length us
unfair_length [] zs e = refl
unfair_length (u ∷ us) [] e = e
unfair_length (u ∷ us) (z ∷ zs) e = ap suc (unfair_length us zs (omega arith))

-- there are as many fair multipliers as rules
pub fair_length : (us : List Rule) (zs : List ℤ) → Fair us zs → length zs ≡ length us
fair_length [] [] f = refl
fair_length [] (z ∷ zs) f = absurd f
fair_length (u ∷ us) [] f = absurd f
fair_length (u ∷ us) (z ∷ zs) f = ap suc (fair_length us zs f.1)

-- with as many multipliers as rules, all are fair exactly if there is no lowest unfair one
pub fair_from : (us : List Rule) (zs : List ℤ) → length zs ≡ length us → lowest (unfair us zs) ≡ None → Fair us zs
fair_from [] [] e h = tt
fair_from [] (z ∷ zs) e h = omega arith
fair_from (u ∷ us) [] e h = omega arith
fair_from (u ∷ us) (z ∷ zs) e h =
    let r = first_none (not (fair u.sense z)) (lowest (unfair us zs)) h in
    (not-false (fair u.sense z) r.0, fair_from us zs (omega arith) r.1)

pub fair_lowest : (us : List Rule) (zs : List ℤ) → Fair us zs → lowest (unfair us zs) ≡ None
fair_lowest [] zs f = refl
fair_lowest (u ∷ us) [] f = refl
fair_lowest (u ∷ us) (z ∷ zs) f = none_first (not (fair u.sense z)) (lowest (unfair us zs)) (not_from_true _ f.0) (fair_lowest us zs f.1)

-- the multiplier of rule r is fair
pub fair_at : (us : List Rule) (zs : List ℤ) → Fair us zs → (r : ℕ) → r < length us → fair (get_or us r no_rule).sense (get_or zs r (pos 0)) ≡ true
fair_at [] zs f r l = absurd (omega arith)
fair_at (u ∷ us) [] f r l = absurd f
fair_at (u ∷ us) (z ∷ zs) f zero l = f.0
fair_at (u ∷ us) (z ∷ zs) f (suc r) l = fair_at us zs f.1 r (omega arith)

-- a fair multiplier is at most 1,000,000,000 in size
pub fair_size : (s : Sense) (z : ℤ) → fair s z ≡ true → nat_abs z ≤ 1_000_000_000
fair_size AtMost z f =
    let r = and_parts (le_z (pos 0) z) (le_z z (pos 1_000_000_000)) f in
    omega (arith, ints, le_z_true (pos 0) z r.0, le_z_true z (pos 1_000_000_000) r.1)
fair_size Exactly z f =
    let r = and_parts (le_z (neg_ℤ (pos 1_000_000_000)) z) (le_z z (pos 1_000_000_000)) f in
    omega (arith, ints, le_z_true (neg_ℤ (pos 1_000_000_000)) z r.0, le_z_true z (pos 1_000_000_000) r.1)

-- a search by number: the lowest rule whose multiplier is not fair, all before it being fair
pub unfair_found : (us : List Rule) (zs : List ℤ) → length zs ≡ length us → (r : ℕ) → r < length us → fair (get_or us r no_rule).sense (get_or zs r (pos 0)) ≡ false → ((k : ℕ) → k < r → fair (get_or us k no_rule).sense (get_or zs k (pos 0)) ≡ true) → lowest (unfair us zs) ≡ Some r
unfair_found us zs e r l h g =
    lowest_found (unfair us zs) r
    (unfair_at us zs e r l ∙ not_from_false _ h)
    (λ k i. unfair_at us zs e k (omega arith) ∙ not_from_true _ (g k i))

-- and no such rule, all being fair
pub unfair_none : (us : List Rule) (zs : List ℤ) → length zs ≡ length us → ((k : ℕ) → k < length us → fair (get_or us k no_rule).sense (get_or zs k (pos 0)) ≡ true) → lowest (unfair us zs) ≡ None
unfair_none us zs e g =
    lowest_none (unfair us zs) (λ k i.
    let l : k < length us = omega (arith, unfair_length us zs e) in
    unfair_at us zs e k l ∙ not_from_true _ (g k l))

-- as many multipliers as rules, each fair
pub fair_all : (us : List Rule) (zs : List ℤ) → length zs ≡ length us → ((k : ℕ) → k < length us → fair (get_or us k no_rule).sense (get_or zs k (pos 0)) ≡ true) → Fair us zs
fair_all us zs e g = fair_from us zs e (unfair_none us zs e g)
