-- The set of one route. Assumes nothing.
use Rattle.std.proofs.Common.{◌≡◌, ℕ, suc, ◌+◌, ◌-◌, ◌/◌, ◌%◌, ◌^◌, true, false, eqb, ap, ◌∙◌, subst, inl, inr, arith, pow_pos, pow-add}
use native.Mathlib.Nat.{div_self, div-eq_of_lt, mul-mod_right, pow-succ'}
use lib.Pow.{pow-lt, shl-shr}
use Rattle.std.proofs.lemmas.Bool.{cases_order}
use Rattle.terms.specs.Routes.{in_set}

-- it has that route
pub set_self : (q : ℕ) → in_set (2 ^ q) q ≡ true
set_self q = ap (λ (x : ℕ). eqb (x % 2) 1) (div_self (pow_pos q))

even : (e : ℕ) → eqb (2 ^ suc e % 2) 1 ≡ false
even e = ap (λ (x : ℕ). eqb x 1) (ap (λ (x : ℕ). x % 2) (pow-succ' 2 e) ∙ mul-mod_right 2 (2 ^ e))

above : (d p : ℕ) → in_set (2 ^ (suc d + p)) p ≡ false
above d p = ap (λ (x : ℕ). eqb (x % 2) 1) (ap (λ (x : ℕ). x / 2 ^ p) (pow-add 2 (suc d) p) ∙ shl-shr (2 ^ suc d) p) ∙ even d

-- and no other
pub set_other : (q p : ℕ) → (p ≡ q → ⊥) → in_set (2 ^ q) p ≡ false
set_other q p n =
    elim (cases_order p q) [
      | inl s ↦ absurd (n s)
      | inr t ↦ elim t [
        | inl l ↦ let e : suc (q - suc p) + p ≡ q = omega arith in subst (λ x. in_set (2 ^ x) p ≡ false) e (above (q - suc p) p)
        | inr g ↦ ap (λ (x : ℕ). eqb (x % 2) 1) (div-eq_of_lt (pow-lt g))
      ]
    ]
