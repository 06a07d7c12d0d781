-- The routes of a set in rising order: how many there are below a route, and where each stands. Assumes nothing.
use Rattle.std.proofs.Common.{◌≡◌, ℕ, zero, suc, ◌+◌, ◌-◌, ◌*◌, ◌/◌, ◌%◌, ◌^◌, ◌<◌, ◌≤◌, max, Bool, true, false, ◌&&◌, ◌||◌, eqb, leb, List, [], ◌∷◌, ◌++◌, length, get_or, sym, refl, ap, ◌∙◌, subst, ap₂, inl, inr, mod-lt, mod-eq_of_lt, pow-suc, one-add, arith, pow_pos, pow_mono, pow-add}
use native.Mathlib.Nat.{div-eq_of_lt, div_self, mul-mod_left, mul-add-mod_self_right, mod-one}
use native.Mathlib.Decide.{le_ind}
use lib.Bits.{bit_and, bit_or, or_shr, or_step, and_mask}
use lib.Count.{ones, ones_cat, ones-ones}
use lib.Pow.{mod-pow-add, pow-lt, shl-shr}
use Rattle.std.proofs.lemmas.List.{get_or_append_left, append-nil, length_push, get_or_push}
use Rattle.std.proofs.lemmas.Bool.{cases_lt, cases_eq, cases_order, cases_Bool, eqb-true, leb-false, ne_eqb, eq-eqb, both_ways, and_from, and_left, and_right}
use Rattle.std.proofs.lemmas.Bool.Decides.{nat_tests}
use Rattle.terms.specs.Routes.{in_set, members, routes_of}

-- the bit of worth 2 to the power q, as it stands in a number
abbrev bit_at : ℕ → ℕ → ℕ
bit_at bits q = (bits / 2 ^ q) % 2

-- the bits up to the one of worth 2 to the power q
low_more : (bits q : ℕ) → bits % 2 ^ suc q ≡ bit_at bits q * 2 ^ q + bits % 2 ^ q
low_more bits q = ap (λ (k : ℕ). bits % 2 ^ k) (sym (one-add q)) ∙ mod-pow-add bits 1 q

-- one more route that is in the set: it is the last of the list
pub members_in : (bits q : ℕ) → in_set bits q ≡ true → members bits (suc q) ≡ members bits q ++ q ∷ []
unfolding members
members_in bits q e = rw e

-- one more route that is not in the set: the list stays
pub members_out : (bits q : ℕ) → in_set bits q ≡ false → members bits (suc q) ≡ members bits q
unfolding members
members_out bits q e = rw (e, append-nil)

-- the bit of a route in the set is 1
bit_in : (bits q : ℕ) → in_set bits q ≡ true → bit_at bits q ≡ 1
bit_in bits q e = eqb-true (bit_at bits q) 1 e

-- and 0 for a route outside the set
bit_out : (bits q : ℕ) → in_set bits q ≡ false → bit_at bits q ≡ 0
bit_out bits q e = grind (arith, nat_tests)

-- the set bits up to the one of worth 2 to the power q
ones_more : (bits q b : ℕ) → bit_at bits q ≡ b → ones (bits % 2 ^ suc q) ≡ ones b + ones (bits % 2 ^ q)
ones_more bits q b e =
    ap ones (low_more bits q ∙ ap (λ (n : ℕ). n * 2 ^ q + bits % 2 ^ q) e) ∙ ones_cat q b (bits % 2 ^ q) (mod-lt bits (pow_pos q))

-- how many routes of the set are below q
pub members_ones : (bits q : ℕ) → length (members bits q) ≡ ones (bits % 2 ^ q)
unfolding members
members_ones bits zero = sym (ap ones (mod-one bits) ∙ ones-ones 0)
members_ones bits (suc q) =
    elim (cases_Bool (in_set bits q)) [
      | inl e ↦ omega (arith, ap length (members_in bits q e), length_push (members bits q) q, members_ones bits q, ones_more bits q 1 (bit_in bits q e), ones-ones 1)
      | inr e ↦ omega (arith, ap length (members_out bits q e), members_ones bits q, ones_more bits q 0 (bit_out bits q e), ones-ones 0)
    ]

-- no set has more routes below q than there are
pub members_few : (bits q : ℕ) → length (members bits q) ≤ q
unfolding members
members_few bits zero = omega arith
members_few bits (suc q) =
    elim (cases_Bool (in_set bits q)) [
      | inl e ↦ omega (arith, ap length (members_in bits q e), length_push (members bits q) q, members_few bits q)
      | inr e ↦ omega (arith, ap length (members_out bits q e), members_few bits q)
    ]

-- one more route to look at makes the list no shorter
members_longer : (bits q : ℕ) → length (members bits q) ≤ length (members bits (suc q))
members_longer bits q =
    elim (cases_Bool (in_set bits q)) [
      | inl e ↦ omega (arith, ap length (members_in bits q e), length_push (members bits q) q)
      | inr e ↦ omega (arith, ap length (members_out bits q e))
    ]

-- a set of routes below k has none from k on
pub none_past : (bits k q : ℕ) → bits < 2 ^ k → k ≤ q → in_set bits q ≡ false
none_past bits k q h g = let l : bits < 2 ^ q = omega (arith, pow_mono g) in rw (div-eq_of_lt l)

-- so looking further finds no more
pub members_past : (bits k q : ℕ) → bits < 2 ^ k → k ≤ q → members bits q ≡ members bits k
members_past bits k q h g =
    le_ind (λ (m : ℕ). members bits m ≡ members bits k) refl (λ m l e. members_out bits m (none_past bits k m h l) ∙ e) q g

-- a power of two has no bit below its own
power_above : (r q : ℕ) → q < r → bit_at (2 ^ r) q ≡ 0
power_above r q h =
    let e : r ≡ suc (r - q - 1) + q = omega arith in
    ap (λ (k : ℕ). 2 ^ k / 2 ^ q % 2) e
    ∙ ap (λ (n : ℕ). n / 2 ^ q % 2) (pow-add 2 (suc (r - q - 1)) q)
    ∙ ap (λ (n : ℕ). n % 2) (shl-shr (2 ^ suc (r - q - 1)) q ∙ pow-suc 2 (r - q - 1))
    ∙ mul-mod_left (2 ^ (r - q - 1)) 2

-- 2 to the power r has the bit of worth 2 to the power r alone
power_bit : (r q : ℕ) → eqb (bit_at (2 ^ r) q) 1 ≡ eqb q r
power_bit r q =
    elim (cases_order q r) [
      | inl e ↦ eq-eqb _ 1 (ap (λ (k : ℕ). 2 ^ r / 2 ^ k % 2) e ∙ ap (λ (n : ℕ). n % 2) (div_self (pow_pos r))) ∙ sym (eq-eqb q r e)
      | inr (inl l) ↦ ap (λ (n : ℕ). eqb n 1) (power_above r q l) ∙ sym (ne_eqb q r (λ d. omega arith))
      | inr (inr g) ↦ ap (λ (n : ℕ). eqb (n % 2) 1) (div-eq_of_lt (pow-lt g)) ∙ sym (ne_eqb q r (λ d. omega arith))
    ]

-- the lowest bit of two numbers joined bit by bit
or_bit : (x y : ℕ) → bit_or x y % 2 ≡ max (x % 2) (y % 2)
or_bit x y =
    ap (λ (n : ℕ). n % 2) (or_step x y) ∙ mul-add-mod_self_right (bit_or (x / 2) (y / 2)) 2 (max (x % 2) (y % 2))
    ∙ mod-eq_of_lt (omega arith)

-- the larger of two bits is set where one of them is
either_bit : (x y : ℕ) → x < 2 → y < 2 → eqb (max x y) 1 ≡ (eqb y 1 || eqb x 1)
either_bit x y h g = grind (arith, nat_tests)

-- the routes of a set into which route r is put
pub in_with : (bits r q : ℕ) → in_set (bit_or bits (2 ^ r)) q ≡ (eqb q r || in_set bits q)
in_with bits r q =
    ap (λ (n : ℕ). eqb (n % 2) 1) (or_shr bits (2 ^ r) q)
    ∙ ap (λ (n : ℕ). eqb n 1) (or_bit (bits / 2 ^ q) (2 ^ r / 2 ^ q))
    ∙ either_bit (bit_at bits q) (bit_at (2 ^ r) q) (omega arith) (omega arith)
    ∙ ap (λ (b : Bool). b || in_set bits q) (power_bit r q)

-- a number that is no route's
pub no_route_lem : (r : ℕ) → false ≡ leb r 63 → 64 ≤ r
no_route_lem r e = omega (arith, leb-false r 63 (sym e))

-- a set into which a route was put
pub put_in : (bits more r q : ℕ) → more ≡ bit_or bits (2 ^ r) → true ≡ leb r 63 → in_set more q ≡ ((leb r 63 && eqb q r) || in_set bits q)
put_in bits more r q e t =
    ap (λ (n : ℕ). in_set n q) e ∙ in_with bits r q ∙ ap (λ (b : Bool). (b && eqb q r) || in_set bits q) t

-- a set has as many routes as set bits
pub ones_length : (bits : ℕ) → bits < 2 ^ 64 → ones bits ≡ length (routes_of bits)
ones_length bits h = sym (members_ones bits 64 ∙ ap ones (mod-eq_of_lt h))

-- the routes below q are those of the set cut off at q
pub rank_below : (bits q : ℕ) → q ≤ 63 → length (routes_of (bit_and bits (2 ^ q - 1))) ≡ length (members bits q)
rank_below bits q h =
    let l : bits % 2 ^ q < 2 ^ 64 = omega (arith, mod-lt bits (pow_pos q), pow_mono {i = q} {j = 64} (omega arith)) in
    ap (λ (n : ℕ). length (routes_of n)) (and_mask bits q) ∙ sym (ones_length (bits % 2 ^ q) l) ∙ sym (members_ones bits q)

-- q is at number i of the routes below n
pub record Numbered (bits n i q : ℕ) : Type 0 where
  pub below : q < n
  pub inside : in_set bits q ≡ true
  pub rank : length (members bits q) ≡ i

-- the route at number i is in the set, and i routes of the set are below it
pub numbered : (bits n i : ℕ) → i < length (members bits n) → Numbered bits n i (get_or (members bits n) i 0)
unfolding members
numbered bits zero i h = absurd (omega arith)
numbered bits (suc n) i h =
    elim (cases_Bool (in_set bits n)) [
      | inl e ↦ elim (cases_lt i (length (members bits n))) [
        | inl l ↦
            let k = numbered bits n i l in
            let d : get_or (members bits n) i 0 ≡ get_or (members bits (suc n)) i 0 = sym (ap (λ (xs : List ℕ). get_or xs i 0) (members_in bits n e) ∙ get_or_append_left (members bits n) (n ∷ []) 0 i l) in
            subst (Numbered bits (suc n) i) d (record { below = omega (arith, k.below); inside = k.inside; rank = k.rank })
        | inr g ↦
            let s : length (members bits n) ≡ i = omega (arith, ap length (members_in bits n e), length_push (members bits n) n) in
            let d : n ≡ get_or (members bits (suc n)) i 0 = sym (ap (λ (xs : List ℕ). get_or xs i 0) (members_in bits n e) ∙ get_or_push (members bits n) n 0 i s) in
            subst (Numbered bits (suc n) i) d (record { below = omega arith; inside = e; rank = s })
      ]
      | inr e ↦
          let k = numbered bits n i (omega (arith, ap length (members_out bits n e))) in
          let d : get_or (members bits n) i 0 ≡ get_or (members bits (suc n)) i 0 = sym (ap (λ (xs : List ℕ). get_or xs i 0) (members_out bits n e)) in
          subst (Numbered bits (suc n) i) d (record { below = omega (arith, k.below); inside = k.inside; rank = k.rank })
    ]

-- each route of the set stands at the number of the routes below it
pub ranked : (bits n q : ℕ) → q < n → in_set bits q ≡ true → (length (members bits q) < length (members bits n)) × (get_or (members bits n) (length (members bits q)) 0 ≡ q)
ranked bits zero q h e = absurd (omega arith)
ranked bits (suc n) q h e =
    elim (cases_eq q n) [
      | inl d ↦
          let i : in_set bits n ≡ true = subst (λ (m : ℕ). in_set bits m ≡ true) d e in
          let s : length (members bits n) ≡ length (members bits q) = ap (λ (m : ℕ). length (members bits m)) (sym d) in (
            omega (arith, ap length (members_in bits n i), length_push (members bits n) n),
            ap (λ (xs : List ℕ). get_or xs (length (members bits q)) 0) (members_in bits n i) ∙ get_or_push (members bits n) n 0 (length (members bits q)) s ∙ sym d,
          )
      | inr d ↦
          let l : q < n = omega arith in
          let k = ranked bits n q l e in
          elim (cases_Bool (in_set bits n)) [
            | inl i ↦ (
              omega (arith, k.0, ap length (members_in bits n i), length_push (members bits n) n),
              ap (λ (xs : List ℕ). get_or xs (length (members bits q)) 0) (members_in bits n i) ∙ get_or_append_left (members bits n) (n ∷ []) 0 (length (members bits q)) k.0 ∙ k.1,
            )
            | inr i ↦ (
              omega (arith, k.0, ap length (members_out bits n i)),
              ap (λ (xs : List ℕ). get_or xs (length (members bits q)) 0) (members_out bits n i) ∙ k.1,
            )
          ]
    ]

-- there are no fewer routes below a larger number
members_grow : (bits m n : ℕ) → m ≤ n → length (members bits m) ≤ length (members bits n)
members_grow bits m n h =
    le_ind (λ (k : ℕ). length (members bits m) ≤ length (members bits k)) (omega arith) (λ k _ l. omega (arith, l, members_longer bits k)) n h

-- the routes are in rising order
pub rising : (bits n i j : ℕ) → i < j → j < length (members bits n) → get_or (members bits n) i 0 < get_or (members bits n) j 0
rising bits n i j h l =
    elim (cases_lt (get_or (members bits n) i 0) (get_or (members bits n) j 0)) [
      | inl less ↦ less
      | inr more ↦ absurd (omega (arith, (numbered bits n i (omega arith)).rank, (numbered bits n j l).rank, members_grow bits _ _ more))
    ]

-- whether a route is the one at number i
pub is_at : (bits n i q : ℕ) → i < length (members bits n) → q < n → eqb q (get_or (members bits n) i 0) ≡ (in_set bits q && eqb (length (members bits q)) i)
is_at bits n i q h l =
    let k = numbered bits n i h in
    elim (cases_Bool (in_set bits q)) [
      | inl e ↦ elim (cases_eq (length (members bits q)) i) [
        | inl d ↦
            eq-eqb q (get_or (members bits n) i 0) (sym (ap (λ (j : ℕ). get_or (members bits n) j 0) (sym d) ∙ (ranked bits n q l e).1))
            ∙ sym (and_from _ _ e (eq-eqb (length (members bits q)) i d))
        | inr d ↦
            ne_eqb q (get_or (members bits n) i 0) (λ s. d (ap (λ (m : ℕ). length (members bits m)) s ∙ k.rank))
            ∙ sym (and_right (in_set bits q) _ (ne_eqb (length (members bits q)) i d))
      ]
      | inr e ↦
          ne_eqb q (get_or (members bits n) i 0) (λ s. both_ways (in_set bits q) e (ap (λ (m : ℕ). in_set bits m) s ∙ k.inside))
          ∙ sym (and_left (in_set bits q) _ e)
    ]

-- two bits with the same test are the same
same_bit : (x y : ℕ) → x < 2 → y < 2 → eqb x 1 ≡ eqb y 1 → x ≡ y
same_bit x y h g e = grind (arith, nat_tests)

-- two sets with the same routes agree in their first k bits
pub same_low : (xs ys k : ℕ) → ((q : ℕ) → in_set xs q ≡ in_set ys q) → xs % 2 ^ k ≡ ys % 2 ^ k
same_low xs ys zero e = mod-one xs ∙ sym (mod-one ys)
same_low xs ys (suc k) e =
    low_more xs k ∙ ap₂ (λ (b n : ℕ). b * 2 ^ k + n) (same_bit (bit_at xs k) (bit_at ys k) (omega arith) (omega arith) (e k)) (same_low xs ys k e)
    ∙ sym (low_more ys k)

-- two sets with the same routes are the same number
pub same_set : (xs ys : ℕ) → xs < 2 ^ 64 → ys < 2 ^ 64 → ((q : ℕ) → in_set xs q ≡ in_set ys q) → xs ≡ ys
same_set xs ys h g e = sym (mod-eq_of_lt h) ∙ same_low xs ys 64 e ∙ mod-eq_of_lt g
