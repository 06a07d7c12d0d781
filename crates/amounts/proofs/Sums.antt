-- What a place and a route are worth and the limits' share, as sums over the rules' numbers. Assumes nothing.
use Rattle.std.proofs.Common.{◌≡◌, ℕ, zero, suc, ◌+◌, List, [], ◌∷◌, length, ℤ, ◌+ℤ◌, ◌*ℤ◌, neg_ℤ, sym, refl, ap, ◌∙◌, ap₂, add-one, arith}
use lib.IntN.{+ℤ_idl, +ℤ_idr, +ℤ_assoc}
use Rattle.rules.specs.Rules.{Rule}
use Rattle.amounts.specs.Amounts.{worth, owed}
use Rattle.amounts.specs.Sums.{sum_to, worth_of, owed_of}

-- a loop's step
pub sum_more : (f : ℕ → ℤ) (n : ℕ) → sum_to f (n + 1) ≡ sum_to f n +ℤ f n
sum_more f n = ap (sum_to f) (add-one n)

-- sums of the same numbers
pub sum_same : (f g : ℕ → ℤ) → ((r : ℕ) → f r ≡ g r) → (n : ℕ) → sum_to f n ≡ sum_to g n
sum_same f g h zero = refl
sum_same f g h (suc n) = ap₂ ◌+ℤ◌ (sum_same f g h n) (h n)

-- a sum with its first number taken out
pub sum_first : (f : ℕ → ℤ) (n : ℕ) → sum_to f (suc n) ≡ f 0 +ℤ sum_to (λ r. f (suc r)) n
sum_first f zero = +ℤ_idl (f 0) ∙ sym (+ℤ_idr (f 0))
sum_first f (suc n) = ap (λ x. x +ℤ f (suc n)) (sum_first f n) ∙ +ℤ_assoc (f 0) (sum_to (λ r. f (suc r)) n) (f (suc n))

-- what a place and a route are worth is the sum of the rules' parts in it
pub worth_sum : (us : List Rule) (zs : List ℤ) (place route : ℕ) → length zs ≡ length us → worth us zs place route ≡ sum_to (worth_of us zs place route) (length us)
worth_sum [] zs place route e = refl
worth_sum (u ∷ us) [] place route e = absurd (omega arith)
worth_sum (u ∷ us) (z ∷ zs) place route e =
    ap (λ x. (z *ℤ u.weight place route) +ℤ x) (worth_sum us zs place route (omega arith)) ∙ sym (sum_first (worth_of (u ∷ us) (z ∷ zs) place route) (length us))

-- the limits' share is the sum of the rules' parts in it
pub owed_sum : (us : List Rule) (zs : List ℤ) → length zs ≡ length us → owed us zs ≡ sum_to (owed_of us zs) (length us)
owed_sum [] zs e = refl
owed_sum (u ∷ us) [] e = absurd (omega arith)
owed_sum (u ∷ us) (z ∷ zs) e =
    ap (λ x. neg_ℤ (z *ℤ u.limit) +ℤ x) (owed_sum us zs (omega arith)) ∙ sym (sum_first (owed_of (u ∷ us) (z ∷ zs)) (length us))
