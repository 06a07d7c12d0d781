-- A number is read in one way. Assumes nothing.
use Rattle.lines.specs.Numerals.{short_fits, nought, zero_text, leading}
use Rattle.std.proofs.Common.{◌≡◌, ℕ, suc, ◌+◌, ◌-◌, ◌*◌, ◌/◌, ◌%◌, ◌^◌, ◌<◌, ◌≤◌, List, [], ◌∷◌, ◌++◌, drop, ℤ, pos, negsuc, ◌-ℤ◌, decimal, sym, ap, ◌∙◌, subst, ⊎_elim, append_assoc, arith, w64, to_z, of_z}
use Rattle.std.proofs.lemmas.Int.{ints}
use Rattle.std.specs.Fmt.{signed_decimal}
use Rattle.std.proofs.lemmas.Fmt.{decimal_digit, decimal_step, first_decimal, decimal_nonempty}
use Rattle.std.proofs.lemmas.List.{get_or_append_left}
use Rattle.lines.specs.Forms.{Short, ShortZ}
use Rattle.lines.specs.Texts.{Digit, Tight, TightZ, ahead}

-- n is read of l, and rest is left
pub record Sofar (l : List ℕ) (n : ℕ) (rest : List ℕ) : Type 0 where
  pub short : Short n
  pub split : l ≡ decimal n ++ rest

-- one more digit
pub more : (l l₁ l₂ : List ℕ) (n d : ℕ) → Sofar l n l₁ → (0 < n) × (n < 10 ^ 9) → Digit (48 + d) → l₁ ≡ (48 + d) ∷ l₂ → Sofar l (n * 10 + d) l₂
more l l₁ l₂ n d s (some, small) dig e =
    let over : (n * 10 + d) / 10 ≡ n = omega arith in
    let last : (n * 10 + d) % 10 ≡ d = omega arith in
    let step : decimal (n * 10 + d) ≡ decimal n ++ ((48 + d) ∷ []) = decimal_step (n * 10 + d) (omega arith) (omega arith) ∙ (λ i. decimal (over i) ++ ((48 + last i) ∷ [])) in
    record { short = omega arith; split = s.split ∙ ap (λ t. decimal n ++ t) e ∙ sym (append_assoc (decimal n) ((48 + d) ∷ []) l₂) ∙ ap (λ t. t ++ l₂) (sym step) }

-- a number other than 0 begins with a digit from 1 to 9
pub leading_most : (n : ℕ) (u : List ℕ) → 0 < n → Short n → (48 < ahead (decimal n ++ u)) × (ahead (decimal n ++ u) ≤ 57)
leading_most n u some h =
    let same = get_or_append_left (decimal n) u 0 0 (decimal_nonempty n (short_fits n h)) in
    (omega (arith, same, first_decimal n some (short_fits n h)), omega (arith, leading n u h))

-- what `-(n as i64)` is
abbrev pub turned : ℕ → ℤ
turned n = to_z w64 (of_z w64 (pos 0 -ℤ to_z w64 n))

-- it is minus n
turned_is : (n : ℕ) → 0 < n → Short n → turned n ≡ negsuc (n - 1)
turned_is n some h = omega (arith, ints)

-- a text that begins with a digit from 1 to 9 is no 0
positive : (n : ℕ) (rest : List ℕ) → 48 < ahead (decimal n ++ rest) → 0 < n
positive n rest big = ⊎_elim (λ z. absurd (omega (arith, ap (λ m. ahead (decimal m ++ rest)) z, ap (λ d. ahead (d ++ rest)) zero_text))) (λ some. some) (nought n)

-- a minus and a number are a signed number
pub minus : (l l₁ rest : List ℕ) (n : ℕ) → l ≡ 45 ∷ l₁ → 48 < ahead l₁ → Short n → l₁ ≡ decimal n ++ rest → Tight n rest → ShortZ (turned n) × (l ≡ signed_decimal (turned n) ++ rest) × TightZ (turned n) rest
minus l l₁ rest n e big h f tight =
    let some = positive n rest (subst (λ t. 48 < ahead t) f big) in
    let is = turned_is n some h in
    let one : suc (n - 1) ≡ n = omega arith in
    (subst ShortZ (sym is) (subst Short (sym one) h), e ∙ ap (λ t. 45 ∷ t) (f ∙ ap (λ m. decimal m ++ rest) (sym one)) ∙ ap (λ z. signed_decimal z ++ rest) (sym is), subst (λ z. TightZ z rest) (sym is) (subst (λ m. Tight m rest) (sym one) tight))

-- what `peek` saw and `skip` left
pub stepped : (l l₁ : List ℕ) (b c : ℕ) → l ≡ c ∷ drop 1 l → c ≡ b → l₁ ≡ drop 1 l → l ≡ b ∷ l₁
stepped l l₁ b c saw is left = saw ∙ ap (λ x. x ∷ drop 1 l) is ∙ ap (λ t. b ∷ t) (sym left)

-- the first digit
pub begun : (l l₁ : List ℕ) (d : ℕ) → Digit (48 + d) × (l ≡ (48 + d) ∷ l₁) → l ≡ decimal d ++ l₁
begun l l₁ d (dig, e) = e ∙ ap (λ t. t ++ l₁) (sym (decimal_digit d (omega arith)))
