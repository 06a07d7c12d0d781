-- Products of whole numbers: over a sum, of a negative, their signs. Assumes nothing.
use Rattle.std.proofs.Common.{◌≡◌, ℕ, zero, suc, ◌*◌, ℤ, pos, negsuc, ◌+ℤ◌, ◌-ℤ◌, ◌*ℤ◌, neg_ℤ, ◌≤ℤ◌, ◌<ℤ◌, sym, ap, ◌∙◌, arith}
use lib.IntN.{suc_ℤ-*ℤ, pred_ℤ-*ℤ, zero-*ℤ, *ℤ-zero, +ℤ_invr, pos-*ℤ-negsuc}
use Rattle.std.proofs.lemmas.Int.{ints}

-- four summands, the inner two swapped
pub swap : (a b c d : ℤ) → (a +ℤ b) +ℤ (c +ℤ d) ≡ (a +ℤ c) +ℤ (b +ℤ d)
swap a b c d = omega (arith, ints)

swap_less : (a b c d : ℤ) → (a +ℤ b) -ℤ (c +ℤ d) ≡ (a -ℤ c) +ℤ (b -ℤ d)
swap_less a b c d = omega (arith, ints)

none : (a b : ℤ) → pos 0 *ℤ (a +ℤ b) ≡ pos 0 *ℤ a +ℤ pos 0 *ℤ b
none a b = zero-*ℤ (a +ℤ b) ∙ sym (ap (λ x. x +ℤ pos 0 *ℤ b) (zero-*ℤ a) ∙ ap (λ x. pos 0 +ℤ x) (zero-*ℤ b))

-- a product goes over a sum
pub product_add : (m a b : ℤ) → m *ℤ (a +ℤ b) ≡ m *ℤ a +ℤ m *ℤ b
product_add (pos zero) a b = none a b
product_add (pos (suc n)) a b =
    suc_ℤ-*ℤ (pos n) (a +ℤ b)
    ∙ ap (λ x. x +ℤ (a +ℤ b)) (product_add (pos n) a b)
    ∙ swap (pos n *ℤ a) (pos n *ℤ b) a b
    ∙ sym (ap (λ x. x +ℤ pos (suc n) *ℤ b) (suc_ℤ-*ℤ (pos n) a) ∙ ap (λ x. (pos n *ℤ a +ℤ a) +ℤ x) (suc_ℤ-*ℤ (pos n) b))
product_add (negsuc zero) a b =
    pred_ℤ-*ℤ (pos 0) (a +ℤ b)
    ∙ ap (λ x. x -ℤ (a +ℤ b)) (none a b)
    ∙ swap_less (pos 0 *ℤ a) (pos 0 *ℤ b) a b
    ∙ sym (ap (λ x. x +ℤ negsuc 0 *ℤ b) (pred_ℤ-*ℤ (pos 0) a) ∙ ap (λ x. (pos 0 *ℤ a -ℤ a) +ℤ x) (pred_ℤ-*ℤ (pos 0) b))
product_add (negsuc (suc n)) a b =
    pred_ℤ-*ℤ (negsuc n) (a +ℤ b)
    ∙ ap (λ x. x -ℤ (a +ℤ b)) (product_add (negsuc n) a b)
    ∙ swap_less (negsuc n *ℤ a) (negsuc n *ℤ b) a b
    ∙ sym (ap (λ x. x +ℤ negsuc (suc n) *ℤ b) (pred_ℤ-*ℤ (negsuc n) a) ∙ ap (λ x. (negsuc n *ℤ a -ℤ a) +ℤ x) (pred_ℤ-*ℤ (negsuc n) b))

-- the product with a negative
pub product_neg : (m a : ℤ) → m *ℤ neg_ℤ a ≡ neg_ℤ (m *ℤ a)
product_neg m a =
    let z : m *ℤ a +ℤ m *ℤ neg_ℤ a ≡ pos 0 = sym (product_add m a (neg_ℤ a)) ∙ ap (λ x. m *ℤ x) (+ℤ_invr a) ∙ *ℤ-zero m in
    omega (arith, ints)

neg_down : (n : ℕ) → neg_ℤ (pos n) ≤ℤ pos 0
neg_down n = omega (arith, ints)

-- a number from 0 on times one up to 0
pub product_down : (z t : ℤ) → pos 0 ≤ℤ z → t ≤ℤ pos 0 → (z *ℤ t) ≤ℤ pos 0
product_down (pos n) (pos zero) h k = omega (arith, ints)
product_down (pos n) (pos (suc m)) h k = absurd (omega (arith, ints))
product_down (pos n) (negsuc m) h k = rw (pos-*ℤ-negsuc n m) (neg_down (n * suc m))
product_down (negsuc n) t h k = absurd (omega (arith, ints))

-- the largest multiplier times a total above 0
pub product_over : (t : ℤ) → pos 0 <ℤ t → pos 1_000_000_000 ≤ℤ (pos 1_000_000_000 *ℤ t)
product_over (pos n) h = omega (arith, ints)
product_over (negsuc n) h = absurd (omega (arith, ints))

-- the least multiplier times a total below 0
pub product_under : (t : ℤ) → t <ℤ pos 0 → pos 1_000_000_000 ≤ℤ (neg_ℤ (pos 1_000_000_000) *ℤ t)
product_under (pos n) h = absurd (omega (arith, ints))
product_under (negsuc n) h = omega (arith, ints)
