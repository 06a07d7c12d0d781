-- Products and sums as code forms them, from numbers of 64 bits. Assumes nothing.
use Rattle.std.proofs.Common.{◌≡◌, ℕ, ◌^◌, ◌<◌, ◌≤◌, ℤ, pos, ◌+ℤ◌, ◌-ℤ◌, ◌*ℤ◌, neg_ℤ, nat_abs, sym, ap, ◌∙◌, subst, arith, w64, SFits, to_z, of_z}
use lib.IntN.{+ℤ_idl}
use Rattle.std.proofs.lemmas.Int.{to_z-of_z}
use Rattle.amounts.proofs.Sizes.{fits, product_size, neg_size}

-- a multiplier times a weight or a limit
module _ (m w : ℤ) (a : nat_abs m ≤ 1_000_000_000) (b : nat_abs w ≤ 1_000_000) where
  size : nat_abs (m *ℤ w) ≤ 1_000_000_000_000_000
  size = product_size m w 1_000_000_000 1_000_000 a b

  same : to_z w64 (of_z w64 m) *ℤ to_z w64 (of_z w64 w) ≡ m *ℤ w
  same =
      let e = to_z-of_z w64 m (fits m 1_000_000_000 a (omega arith)) in
      let f = to_z-of_z w64 w (fits w 1_000_000 b (omega arith)) in
      cc

  pub product_fits : SFits w64 (to_z w64 (of_z w64 m) *ℤ to_z w64 (of_z w64 w))
  product_fits = subst (SFits w64) (sym same) (fits (m *ℤ w) 1_000_000_000_000_000 size (omega arith))

  pub product_is : to_z w64 (of_z w64 (to_z w64 (of_z w64 m) *ℤ to_z w64 (of_z w64 w))) ≡ m *ℤ w
  product_is = to_z-of_z w64 _ product_fits ∙ same

  minus : pos 0 -ℤ to_z w64 (of_z w64 (to_z w64 (of_z w64 m) *ℤ to_z w64 (of_z w64 w))) ≡ neg_ℤ (m *ℤ w)
  minus = ap (λ x. pos 0 -ℤ x) product_is ∙ +ℤ_idl (neg_ℤ (m *ℤ w))

  -- the same with its sign turned
  pub minus_fits : SFits w64 (pos 0 -ℤ to_z w64 (of_z w64 (to_z w64 (of_z w64 m) *ℤ to_z w64 (of_z w64 w))))
  minus_fits = subst (SFits w64) (sym minus) (fits (neg_ℤ (m *ℤ w)) 1_000_000_000_000_000 (omega (arith, size, neg_size (m *ℤ w))) (omega arith))

  pub minus_is : to_z w64 (of_z w64 (pos 0 -ℤ to_z w64 (of_z w64 (to_z w64 (of_z w64 m) *ℤ to_z w64 (of_z w64 w))))) ≡ neg_ℤ (m *ℤ w)
  minus_is = to_z-of_z w64 _ minus_fits ∙ minus

-- one more in a running sum x, whose bits are b
module _ (b : ℕ) (x y : ℤ) (n : ℕ) (is : to_z w64 b ≡ x) (small : nat_abs y ≤ 1_000_000_000_000_000) (both : nat_abs (x +ℤ y) ≤ n) (few : n < 2 ^ 63) where
  sum_same : to_z w64 b +ℤ to_z w64 (of_z w64 y) ≡ x +ℤ y
  sum_same = let e = to_z-of_z w64 y (fits y 1_000_000_000_000_000 small (omega arith)) in cc

  pub sum_fits : SFits w64 (to_z w64 b +ℤ to_z w64 (of_z w64 y))
  sum_fits = subst (SFits w64) (sym sum_same) (fits (x +ℤ y) n both few)

  pub sum_is : to_z w64 (of_z w64 (to_z w64 b +ℤ to_z w64 (of_z w64 y))) ≡ x +ℤ y
  sum_is = to_z-of_z w64 _ sum_fits ∙ sum_same
