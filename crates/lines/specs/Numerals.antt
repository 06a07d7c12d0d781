-- A number is read in one way. Assumes nothing.
use Rattle.std.proofs.Common.{◌≡◌, ℕ, zero, suc, ◌^◌, ◌<◌, ◌≤◌, ◌⊎◌, List, [], ◌∷◌, ◌++◌, length, get_or, ℤ, pos, negsuc, decimal, sym, refl, ap, ◌∙◌, subst, inl, inr, ⊎_elim, append-nil, arith, length-append}
use native.Mathlib.Nat.{pow-le-pow_right}
use Rattle.std.specs.Str.Parse.{AllDigits}
use Rattle.std.specs.Fmt.{signed_decimal}
use Rattle.std.proofs.lemmas.Str.Parse.{digit_from_value}
use Rattle.std.proofs.lemmas.Fmt.{decimal_is_IsNumeral, decimal_digit, first_decimal, length-decimal-le, decimal_injective, decimal_nonempty}
use Rattle.std.proofs.lemmas.Int.Digits.{digits_value-lt}
use Rattle.std.proofs.lemmas.Bool.{cases_lt}
use Rattle.lines.specs.Forms.{Short, ShortZ}
use Rattle.lines.specs.Texts.{Digit, Tight, TightZ, ahead}

-- two ways to cut one list
pub meet : (p t q u : List ℕ) → p ++ t ≡ q ++ u → ((v : List ℕ) × (q ≡ p ++ v) × (t ≡ v ++ u)) ⊎ ((v : List ℕ) × (p ≡ q ++ v) × (u ≡ v ++ t))
meet [] t q u e = inl (q, refl, e)
meet (b ∷ p) t [] u e = inr (b ∷ p, refl, sym e)
meet (b ∷ p) t (c ∷ q) u e = go (meet p t q u (cc))
  where
    same : b ≡ c
    same = cc

    go : (((v : List ℕ) × (q ≡ p ++ v) × (t ≡ v ++ u)) ⊎ ((v : List ℕ) × (p ≡ q ++ v) × (u ≡ v ++ t))) → ((v : List ℕ) × (c ∷ q ≡ (b ∷ p) ++ v) × (t ≡ v ++ u)) ⊎ ((v : List ℕ) × (b ∷ p ≡ (c ∷ q) ++ v) × (u ≡ v ++ t))
    go (inl (v, x, y)) = inl (v, cc, y)
    go (inr (v, x, y)) = inr (v, cc, y)

-- ten digits fit 64 bits
pub short_fits : (n : ℕ) → Short n → n < 2 ^ 64
short_fits n h = omega arith

-- a digit of a numeral that is cut in two
inner_digit : (p : List ℕ) (c : ℕ) (v : List ℕ) → AllDigits 10 (p ++ (c ∷ v)) → Digit c
inner_digit [] c v d = digit_from_value c d.0
inner_digit (b ∷ p) c v d = inner_digit p c v d.1

-- the text of a number is digits
digits_of : (n : ℕ) → Short n → AllDigits 10 (decimal n)
digits_of n h = (decimal_is_IsNumeral n (short_fits n h)).0.1

-- fewer than ten digits
up : (k : ℕ) → k < 10 → 10 ^ k ≤ 10 ^ 9
up k lt = let le : k ≤ 9 = omega arith in let ten : 0 < 10 = omega arith in pow-le-pow_right {n = 10} ten {i = k} {j = 9} le

-- a number from 10 ^ 9 on has ten digits
long : (n : ℕ) → Short n → 10 ^ 9 ≤ n → 10 ≤ length (decimal n)
long n h big = ⊎_elim (λ lt. absurd (omega (arith, digits_value-lt 10 (decimal n) (digits_of n h), (decimal_is_IsNumeral n (short_fits n h)).1, up (length (decimal n)) lt))) (λ le. le) (cases_lt (length (decimal n)) 10)

-- the text of 0
pub zero_text : decimal 0 ≡ 48 ∷ []
zero_text = decimal_digit 0 (omega arith)

-- a number is 0 or more
pub nought : (m : ℕ) → (m ≡ 0) ⊎ (0 < m)
nought zero = inl refl
nought (suc m) = inr (omega arith)

-- a text begins with one number, where no digit follows it, or none could
pub once : (m n : ℕ) (u t : List ℕ) → Short m → Short n → (Digit (ahead u) → ⊥) → Tight n t → decimal m ++ u ≡ decimal n ++ t → (m ≡ n) × (u ≡ t)
once m n u t hm hn bare tight e = go (meet (decimal m) u (decimal n) t e)
  where
    left : (v : List ℕ) → decimal n ≡ decimal m ++ v → u ≡ v ++ t → (m ≡ n) × (u ≡ t)
    left [] x y = (decimal_injective m n (short_fits m hm) (short_fits n hn) (sym (x ∙ append-nil _)), y)
    left (c ∷ v) x y = absurd ((subst (λ l. Digit (ahead l) → ⊥) y bare) (inner_digit (decimal m) c v (subst (AllDigits 10) x (digits_of n hn))))

    more : (c : ℕ) (v : List ℕ) → decimal m ≡ decimal n ++ (c ∷ v) → (n ≡ 0) ⊎ (10 ^ 9 ≤ n) → ⊥
    more c v x (inl z) =
        let two : decimal m ≡ 48 ∷ c ∷ v = x ∙ ap (λ i. decimal i ++ (c ∷ v)) z ∙ ap (λ l. l ++ (c ∷ v)) zero_text in
        ⊎_elim (λ lt. let one : decimal m ≡ 48 ∷ [] = ap decimal lt ∙ zero_text in absurd (omega (arith, ap length one, ap length two))) (λ le. omega (arith, first_decimal m le (short_fits m hm), ap (λ l. get_or l 0 0) two)) (nought m)
    more c v x (inr big) = omega (arith, long n hn big, length-decimal-le 10 m (omega arith) hm (short_fits m hm), ap length x, length-append (decimal n) (c ∷ v))

    right : (v : List ℕ) → decimal m ≡ decimal n ++ v → t ≡ v ++ u → (m ≡ n) × (u ≡ t)
    right [] x y = (decimal_injective m n (short_fits m hm) (short_fits n hn) (x ∙ append-nil _), sym y)
    right (c ∷ v) x y = absurd (more c v x ((subst (Tight n) y tight) (inner_digit (decimal n) c v (subst (AllDigits 10) x (digits_of m hm)))))

    go : (((v : List ℕ) × (decimal n ≡ decimal m ++ v) × (u ≡ v ++ t)) ⊎ ((v : List ℕ) × (decimal m ≡ decimal n ++ v) × (t ≡ v ++ u))) → (m ≡ n) × (u ≡ t)
    go (inl (v, x, y)) = left v x y
    go (inr (v, x, y)) = right v x y

-- a number begins with a digit
pub leading : (n : ℕ) (u : List ℕ) → Short n → Digit (ahead (decimal n ++ u))
leading n u h = go (decimal n) (digits_of n h) (decimal_nonempty n (short_fits n h))
  where
    go : (ds : List ℕ) → AllDigits 10 ds → 0 < length ds → Digit (ahead (ds ++ u))
    go [] d s = absurd (omega arith)
    go (c ∷ ds) d s = digit_from_value c d.0

-- the same of a signed number
pub once_signed : (y z : ℤ) (u t : List ℕ) → ShortZ y → ShortZ z → (Digit (ahead u) → ⊥) → TightZ z t → signed_decimal y ++ u ≡ signed_decimal z ++ t → (y ≡ z) × (u ≡ t)
once_signed (pos m) (pos n) u t hm hn bare tight e = let o = once m n u t hm hn bare tight e in (ap pos o.0, o.1)
once_signed (pos m) (negsuc n) u t hm hn bare tight e = absurd (omega (arith, leading m u hm, ap ahead e))
once_signed (negsuc m) (pos n) u t hm hn bare tight e = absurd (omega (arith, leading n t hn, ap ahead e))
once_signed (negsuc m) (negsuc n) u t hm hn bare tight e =
    let o = once (suc m) (suc n) u t hm hn bare tight (tail _ _ e) in
    let same : m ≡ n = omega (arith, o.0) in
    (ap negsuc same, o.1)
  where
    tail : (a b : List ℕ) → 45 ∷ a ≡ 45 ∷ b → a ≡ b
    tail a b e = cc
