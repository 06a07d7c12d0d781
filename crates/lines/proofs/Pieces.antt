-- Numbers, amounts, pairs and triples: each begins a text in one way. Assumes nothing.
use Rattle.lines.specs.Numerals.{leading}
use Rattle.lines.specs.Laws.{triple_text, amount_text, pair_text}
use Rattle.std.proofs.Common.{◌≡◌, ℕ, suc, ◌≤◌, List, [], ◌∷◌, ◌++◌, ℤ, pos, negsuc, Some, None, decimal, Option, sym, refl, ap, ◌∙◌, subst, arith, w64, to_z, of_z}
use Rattle.std.proofs.lemmas.Int.{to_z-of_z}
use Rattle.std.specs.Fmt.{signed_decimal}
use Rattle.lines.specs.Forms.{Short, ShortZ, ShortPair, ShortTriple, number, amount, pair, triple}
use Rattle.lines.specs.Texts.{Halts, Digit, ahead, Tight, Open, Byte, Piece, Item, Counts, Takes}
use Rattle.lines.proofs.Numerals.{leading_most}
use Rattle.lines.specs.Items.{Like}
use Rattle.lines.proofs.Halting.{Live, Follows, halt_now, halt_after, halt_wider, byte_some, open_follows}

-- there is a number
pub number_live : (N : List ℕ → Type 0) → Live N → Live (Piece decimal Short (λ _. N))
number_live N (t, n) = (decimal 0 ++ t, (0, t, omega arith, n, refl))

-- no digit is next
number_none : (N : List ℕ → Type 0) (l : List ℕ) → Live N → Open l → Halts (Piece decimal Short (λ _. N)) l l
number_none N l live bar = halt_now _ l (number_live N live) (λ t like m. bar (subst Digit like (subst (λ x. Digit (ahead x)) (sym m.4) (leading m.0 m.1 m.2))))

-- what `number` answers where there is none
pub number_halts : {l rest : List ℕ} → (rest ≡ l) × Open l → Halts (Piece decimal Short (λ _. Open)) l rest
number_halts {l} {rest} (same, bar) = subst (Halts (Piece decimal Short (λ _. Open)) l) (sym same) (number_none Open l open_follows.live bar)

-- what `number` answers, as the answer of a reader of pieces
pub number_takes : (l rest : List ℕ) (o : Option ℕ) → Counts l o rest → Takes decimal Short Tight l o rest
number_takes l rest None h = number_halts h
number_takes l rest (Some n) h = h

-- there is a signed number
pub signed_live : (N : List ℕ → Type 0) → Live N → Live (Piece signed_decimal ShortZ (λ _. N))
signed_live N (t, n) = (decimal 0 ++ t, (pos 0, t, omega arith, n, refl))

-- no minus, and no number
pub signed_none : (N : List ℕ → Type 0) (l rest : List ℕ) → (ahead l ≡ 45 → ⊥) → Halts (Piece decimal Short (λ _. N)) l rest → Halts (Piece signed_decimal ShortZ (λ _. N)) l rest
signed_none N l rest minus h = halt_wider (Piece decimal Short (λ _. N)) (Piece signed_decimal ShortZ (λ _. N)) l rest (λ t m. (pos m.0, m.1, m.2, m.3, m.4)) only h
  where
    only : (t : List ℕ) → Like l t → Piece signed_decimal ShortZ (λ _. N) t → Piece decimal Short (λ _. N) t
    only t like (pos n, u, short, m, e) = (n, u, short, m, e)
    only t like (negsuc n, u, short, m, e) = absurd (minus (sym like ∙ ap ahead e))

-- a minus, and then no digit from 1 to 9
pub minus_none : (N : List ℕ → Type 0) (l l₁ : List ℕ) → Live N → l ≡ 45 ∷ l₁ → (49 ≤ ahead l₁ → ahead l₁ ≤ 57 → ⊥) → Halts (Piece signed_decimal ShortZ (λ _. N)) l l₁
minus_none N l l₁ live e bar = subst (λ x. Halts Signed x l₁) (sym e) (halt_after Signed After (45 ∷ []) l₁ l₁ (halt_now After l₁ (decimal 1 ++ live.0, (negsuc 0, live.0, omega arith, live.1, refl)) stuck) (λ t m. m) (λ t like m. m))
  where
    Signed : List ℕ → Type 0
    Signed = Piece signed_decimal ShortZ (λ _. N)

    After : List ℕ → Type 0
    After t = Piece signed_decimal ShortZ (λ _. N) (45 ∷ t)

    stuck : (t : List ℕ) → Like l₁ t → Piece signed_decimal ShortZ (λ _. N) (45 ∷ t) → ⊥
    stuck t like (pos n, u, short, m, e) = omega (arith, leading n u short, ap ahead e)
    stuck t like (negsuc n, u, short, m, e) =
        let e' : t ≡ decimal (suc n) ++ u = cc in
        let first = leading_most (suc n) u (omega arith) short in
        bar (omega (arith, like, ap ahead e')) (omega (arith, like, ap ahead e'))

-- a number after a blank may stand after a number
pub item_follows : (N : List ℕ → Type 0) → Live N → Follows (Item N)
item_follows N (t, n) = record { live = (number 0 ++ t, (0, t, omega arith, n, refl)); un = λ t m d. omega (arith, ap ahead m.4) }

-- a blank and a number
pub as_item : (N : List ℕ → Type 0) {l rest : List ℕ} → Halts (Byte 32 (Piece decimal Short (λ _. N))) l rest → Halts (Item N) l rest
as_item N {l} {rest} h = halt_wider (Byte 32 (Piece decimal Short (λ _. N))) (Item N) l rest into (λ t like m. out t m) h
  where
    into : (t : List ℕ) → Byte 32 (Piece decimal Short (λ _. N)) t → Item N t
    into t (a, (n, u, h, m, e₂), e₁) = (n, u, h, m, e₁ ∙ ap (λ x. 32 ∷ x) e₂)

    out : (t : List ℕ) → Item N t → Byte 32 (Piece decimal Short (λ _. N)) t
    out t (n, u, h, m, e) = (decimal n ++ u, (n, u, h, m, refl), e)

-- what `item` answers
pub item_takes : (o : Option ℕ) (l l₁ rest : List ℕ) → l ≡ 32 ∷ l₁ → Counts l₁ o rest → Takes number Short Tight l o rest
item_takes None l l₁ rest e h = as_item Open (byte_some e (number_halts h))
item_takes (Some n) l l₁ rest e (short, f, tight) = (short, e ∙ ap (λ x. 32 ∷ x) f, tight)

-- an amount, and then a text of N
abbrev Amount : (List ℕ → Type 0) → List ℕ → Type 0
Amount N = Piece amount ShortZ (λ _. N)

-- an amount may stand after a number
pub amount_follows : (N : List ℕ → Type 0) → Live N → Follows (Amount N)
amount_follows N (t, n) = record { live = (amount (pos 0) ++ t, (pos 0, t, omega arith, n, refl)); un = λ t m d. omega (arith, ap ahead m.4) }

-- a blank, a signed number and the bracket
pub as_amount : (N : List ℕ → Type 0) {l rest : List ℕ} → Halts (Byte 32 (Piece signed_decimal ShortZ (λ _. Byte 41 N))) l rest → Halts (Amount N) l rest
as_amount N {l} {rest} h = halt_wider (Byte 32 (Piece signed_decimal ShortZ (λ _. Byte 41 N))) (Amount N) l rest into (λ t like m. out t m) h
  where
    into : (t : List ℕ) → Byte 32 (Piece signed_decimal ShortZ (λ _. Byte 41 N)) t → Amount N t
    into t (a, (z, b, h, (u, m, e₃), e₂), e₁) = (z, u, h, m, e₁ ∙ ap (λ x. 32 ∷ x) (e₂ ∙ ap (λ x. signed_decimal z ++ x) e₃) ∙ sym (amount_text z u))

    out : (t : List ℕ) → Amount N t → Byte 32 (Piece signed_decimal ShortZ (λ _. Byte 41 N)) t
    out t (z, u, h, m, e) = (_, (z, _, h, (u, m, refl), refl), e ∙ amount_text z u)

-- a signed number that is handed on
pub back : (z : ℤ) → ShortZ z → to_z w64 (of_z w64 z) ≡ z
back (pos n) h = to_z-of_z w64 (pos n) (record { sfits = omega arith })
back (negsuc n) h = to_z-of_z w64 (negsuc n) (record { sfits = omega arith })

-- a bracket, a number and an amount
pub as_pair : (N : List ℕ → Type 0) {l rest : List ℕ} → Halts (Byte 40 (Piece decimal Short (λ _. Amount N))) l rest → Halts (Piece pair ShortPair (λ _. N)) l rest
as_pair N {l} {rest} h = halt_wider (Byte 40 (Piece decimal Short (λ _. Amount N))) (Piece pair ShortPair (λ _. N)) l rest into (λ t like m. out t m) h
  where
    into : (t : List ℕ) → Byte 40 (Piece decimal Short (λ _. Amount N)) t → Piece pair ShortPair (λ _. N) t
    into t (a, (n, b, hn, (z, u, hz, m, e₃), e₂), e₁) = ((n, z), u, (hn, hz), m, e₁ ∙ ap (λ x. 40 ∷ x) (e₂ ∙ ap (λ x. decimal n ++ x) e₃) ∙ sym (pair_text n z u))

    out : (t : List ℕ) → Piece pair ShortPair (λ _. N) t → Byte 40 (Piece decimal Short (λ _. Amount N)) t
    out t ((n, z), u, (hn, hz), m, e) = (_, (n, _, hn, (z, u, hz, m, refl), refl), e ∙ pair_text n z u)

-- a bracket, two numbers and an amount
pub as_triple : (N : List ℕ → Type 0) {l rest : List ℕ} → Halts (Byte 40 (Piece decimal Short (λ _. Item (Amount N)))) l rest → Halts (Piece triple ShortTriple (λ _. N)) l rest
as_triple N {l} {rest} h = halt_wider (Byte 40 (Piece decimal Short (λ _. Item (Amount N)))) (Piece triple ShortTriple (λ _. N)) l rest into (λ t like m. out t m) h
  where
    into : (t : List ℕ) → Byte 40 (Piece decimal Short (λ _. Item (Amount N))) t → Piece triple ShortTriple (λ _. N) t
    into t (a, (m, b, hm, (n, c, hn, (z, u, hz, q, e₄), e₃), e₂), e₁) = ((m, n, z), u, (hm, hn, hz), q, e₁ ∙ ap (λ x. 40 ∷ x) (e₂ ∙ ap (λ x. decimal m ++ x) (e₃ ∙ ap (λ x. number n ++ x) e₄)) ∙ sym (triple_text m n z u))

    out : (t : List ℕ) → Piece triple ShortTriple (λ _. N) t → Byte 40 (Piece decimal Short (λ _. Item (Amount N))) t
    out t ((m, n, z), u, (hm, hn, hz), q, e) = (_, (m, _, hm, (n, _, hn, (z, u, hz, q, refl), refl), refl), e ∙ triple_text m n z u)
