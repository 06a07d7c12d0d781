-- Multipliers that close a case: none, or the largest for one broken rule. Assumes nothing.
use Rattle.std.proofs.Common.{◌≡◌, ℕ, zero, suc, ◌<◌, ◌≤◌, Bool, true, false, not, ◌⊎◌, List, [], ◌∷◌, length, get_or, ℤ, pos, ◌+ℤ◌, ◌*ℤ◌, neg_ℤ, ◌≤ℤ◌, None, Option, sym, refl, ap, subst, inl, inr, arith}
use lib.IntN.{zero-*ℤ}
use lib.Signed.{le_z}
use Rattle.std.proofs.lemmas.Int.{ints}
use Rattle.std.proofs.lemmas.Bool.{cases_Bool, and_from, and_cases, le-ltb, eq-eqb}
use Rattle.terms.specs.declared.arc.Arc.{Arc}
use Rattle.terms.specs.declared.rule.Sense.{Sense}
use Rattle.terms.specs.declared.rule.Sense.TheVariants.{AtMost, Exactly}
use Rattle.terms.specs.declared.refusal.Refusal.TheVariants.{TooManyRules, MultiplierCount, MultiplierRange}
use Rattle.terms.specs.Refusals.{when, naming}
use Rattle.plans.proofs.Whole.{le_z_false}
use Rattle.rules.specs.Rules.{Rule, no_rule}
use Rattle.rules.specs.Lawful.{Problem, total, meets, holds}
use Rattle.amounts.specs.Multipliers.{fair, Fair}
use Rattle.amounts.specs.Amounts.{charge}
use Rattle.amounts.proofs.Products.{product_over, product_under}
use Rattle.amounts.proofs.Lowest.{fair_length, fair_lowest}
use Rattle.judging.specs.Calls.{multiplier_rows}
use Rattle.judging.specs.Theorem.{ranged}
use Rattle.judging.proofs.Rows.{none_or}

-- no row refuses fair multipliers for at most 128 rules
pub fair_rows : (t : Problem) (zs : List ℤ) → length t.rules ≤ 128 → Fair t.rules zs → multiplier_rows t zs ≡ None
fair_rows t zs few f =
    none_or _ _ (ap (λ (b : Bool). when b TooManyRules) (le-ltb 128 (length t.rules) few))
    (none_or _ _ (ap (λ (b : Bool). when (not b) MultiplierCount) (eq-eqb (length zs) (length t.rules) (fair_length t.rules zs f)))
    (none_or _ _ (ap (λ (o : Option ℕ). naming MultiplierRange o) (fair_lowest t.rules zs f)) refl))

-- 0 for each rule
abbrev pub zeros : List Rule → List ℤ
zeros [] = []
zeros (u ∷ us) = pos 0 ∷ zeros us

zero_fair : (s : Sense) → fair s (pos 0) ≡ true
zero_fair AtMost = refl
zero_fair Exactly = refl

pub zeros_fair : (us : List Rule) → Fair us (zeros us)
zeros_fair [] = tt
zeros_fair (u ∷ us) = (zero_fair u.sense, zeros_fair us)

pub zeros_ranged : (us : List Rule) → ranged (zeros us) ≡ true
zeros_ranged [] = refl
zeros_ranged (u ∷ us) = zeros_ranged us

nought : (x y : ℤ) → x ≡ pos 0 → y ≡ pos 0 → x +ℤ y ≡ pos 0
nought x y h k = omega (arith, ints)

-- they charge nothing
pub zeros_charge : (arcs : List Arc) (us : List Rule) (p : List ℕ) → charge arcs us (zeros us) p ≡ pos 0
zeros_charge arcs [] p = refl
zeros_charge arcs (u ∷ us) p = nought (pos 0 *ℤ total arcs u p) _ (zero-*ℤ (total arcs u p)) (zeros_charge arcs us p)

-- a multiplier for a rule that is broken, which charges a thousand million at least
abbrev Strong : Sense → ℤ → Type 0
Strong s x = (z : ℤ) × ((fair s z ≡ true) × ((fair Exactly z ≡ true) × (pos 1_000_000_000 ≤ℤ (z *ℤ x))))

strong : (s : Sense) (x : ℤ) → meets s x ≡ false → Strong s x
strong AtMost x h = (pos 1_000_000_000, (refl, (refl, product_over x (le_z_false x (pos 0) h))))
strong Exactly x h =
    elim (and_cases (le_z x (pos 0)) (le_z (pos 0) x) h) [
      | inl e ↦ (pos 1_000_000_000, (refl, (refl, product_over x (le_z_false x (pos 0) e))))
      | inr e ↦ (neg_ℤ (pos 1_000_000_000), (refl, (refl, product_under x (le_z_false (pos 0) x e))))
    ]

-- multipliers that charge every plan with the totals of p a thousand million at least
abbrev Charged : List Arc → List Rule → List ℕ → Type 0
Charged arcs us p = (zs : List ℤ) × (Fair us zs × ((ranged zs ≡ true) × ((q : List ℕ) → ((u : Rule) → total arcs u q ≡ total arcs u p) → pos 1_000_000_000 ≤ℤ charge arcs us zs q)))

-- every rule holds on p, or there are such multipliers
pub broken_or_not : (arcs : List Arc) (p : List ℕ) (us : List Rule) → ((r : ℕ) → r < length us → holds arcs p (get_or us r no_rule) ≡ true) ⊎ Charged arcs us p
broken_or_not arcs p [] = inl (λ r l. absurd (omega arith))
broken_or_not arcs p (u ∷ us) =
    elim (cases_Bool (holds arcs p u)) [
      | inl h ↦ elim (broken_or_not arcs p us) [
        | inl all ↦ inl (both h all)
        | inr c ↦ inr (pos 0 ∷ c.0, ((zero_fair u.sense, c.1.0), (c.1.1.0, λ q e. add (pos 0 *ℤ total arcs u q) (charge arcs us c.0 q) (zero-*ℤ (total arcs u q)) (c.1.1.1 q e))))
      ]
      | inr h ↦
          let z = strong u.sense (total arcs u p) h in
          inr (
            z.0 ∷ zeros us,
            (
              (z.1.0, zeros_fair us),
              (
                and_from _ _ z.1.1.0 (zeros_ranged us),
                λ q e.
                    first (z.0 *ℤ total arcs u q) (charge arcs us (zeros us) q) (subst (λ x. pos 1_000_000_000 ≤ℤ (z.0 *ℤ x)) (sym (e u)) z.1.1.1) (zeros_charge arcs us q),
              ),
            ),
          )
    ]
  where
    both : holds arcs p u ≡ true → ((r : ℕ) → r < length us → holds arcs p (get_or us r no_rule) ≡ true) → (r : ℕ) → r < length (u ∷ us) → holds arcs p (get_or (u ∷ us) r no_rule) ≡ true
    both h all zero l = h
    both h all (suc r) l = all r (omega arith)

    add : (x y : ℤ) → x ≡ pos 0 → pos 1_000_000_000 ≤ℤ y → pos 1_000_000_000 ≤ℤ (x +ℤ y)
    add x y h k = omega (arith, ints)

    first : (x y : ℤ) → pos 1_000_000_000 ≤ℤ x → y ≡ pos 0 → pos 1_000_000_000 ≤ℤ (x +ℤ y)
    first x y h k = omega (arith, ints)
