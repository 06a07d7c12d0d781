-- The laws of numbers, pairs and triples: each begins a text in one way. Assumes nothing.
use Rattle.std.proofs.Common.{◌≡◌, ℕ, ◌<◌, ◌⊎◌, List, [], ◌∷◌, ◌++◌, length, drop, ℤ, pos, negsuc, codes, decimal, sym, refl, ap, ◌∙◌, subst, inl, inr, append_assoc, arith, length-append}
use Rattle.std.proofs.lemmas.Fmt.{decimal_nonempty}
use Rattle.std.specs.List.{flat_map}
use Rattle.std.specs.Fmt.{signed_decimal}
use Rattle.lines.specs.Forms.{Short, ShortZ, ShortPair, ShortTriple, number, numbers, amount, pair, triple}
use Rattle.lines.specs.Texts.{Digit, ahead, Tight, TightZ, Free, Open}
use Rattle.lines.specs.Items.{Like, Told, Row, RowOrList, ItemLaws}
use Rattle.lines.specs.Numerals.{short_fits, once, once_signed, leading}

-- what follows one byte
tail : (b : ℕ) (p q : List ℕ) → b ∷ p ≡ b ∷ q → p ≡ q
tail b p q e = cc

-- a number
pub number_told : Told decimal Short Tight
number_told = record { once = once; like = λ n l t like tight d. tight (subst Digit like d); loose = λ n l bare d. absurd (bare d) }

-- a signed number
pub signed_told : Told signed_decimal ShortZ TightZ
signed_told = record { once = once_signed; like = go; loose = bare }
  where
    go : (z : ℤ) (l t : List ℕ) → Like l t → TightZ z l → TightZ z t
    go (pos n) l t like tight = λ d. tight (subst Digit like d)
    go (negsuc n) l t like tight = λ d. tight (subst Digit like d)

    bare : (z : ℤ) (l : List ℕ) → Open l → TightZ z l
    bare (pos n) l o = λ d. absurd (o d)
    bare (negsuc n) l o = λ d. absurd (o d)

-- a number after a blank
pub item_told : Told number Short Tight
item_told = record { once = λ m n u t hm hn bare tight e. once m n u t hm hn bare tight (tail 32 _ _ e); like = number_told.like; loose = number_told.loose }

-- an amount
pub amount_text : (z : ℤ) (u : List ℕ) → amount z ++ u ≡ 32 ∷ (signed_decimal z ++ (41 ∷ u))
amount_text z u = ap (λ t. 32 ∷ t) (append_assoc (signed_decimal z) (41 ∷ []) u)

-- no digit follows where the bracket does
tight_close : (z : ℤ) (t : List ℕ) → TightZ z (41 ∷ t)
tight_close (pos n) t = λ d. absurd (omega arith)
tight_close (negsuc n) t = λ d. absurd (omega arith)

-- a text begins with one amount
pub amount_told_lem : Told amount ShortZ Free
amount_told_lem = record { once = one; like = λ x l t like f. f; loose = λ x l o. tt }
  where
    one : (y z : ℤ) (u t : List ℕ) → ShortZ y → ShortZ z → Open u → Free z t → amount y ++ u ≡ amount z ++ t → (y ≡ z) × (u ≡ t)
    one y z u t hy hz bare f e =
        let o = once_signed y z (41 ∷ u) (41 ∷ t) hy hz (λ d. omega arith) (tight_close z t) (tail 32 _ _ (sym (amount_text y u) ∙ e ∙ amount_text z t)) in
        (o.0, tail 41 _ _ o.1)

-- a pair
pub pair_text : (n : ℕ) (z : ℤ) (u : List ℕ) → pair (n, z) ++ u ≡ 40 ∷ (decimal n ++ (amount z ++ u))
pair_text n z u = ap (λ t. 40 ∷ t) (append_assoc (decimal n) (amount z) u)

-- a text begins with one pair
pub pair_told : Told pair ShortPair Free
pair_told = record { once = one; like = λ x l t like f. f; loose = λ x l o. tt }
  where
    one : (x y : ℕ × ℤ) (u t : List ℕ) → ShortPair x → ShortPair y → Open u → Free y t → pair x ++ u ≡ pair y ++ t → (x ≡ y) × (u ≡ t)
    one (m, y) (n, z) u t (hm, hy) (hn, hz) bare f e =
        let a = once m n (amount y ++ u) (amount z ++ t) hm hn (λ d. omega arith) (λ d. absurd (omega arith)) (tail 40 _ _ (sym (pair_text m y u) ∙ e ∙ pair_text n z t)) in
        let b = amount_told_lem.once y z u t hy hz bare tt a.1 in
        ((λ i. (a.0 i, b.0 i)), b.1)

-- a triple
pub triple_text : (m n : ℕ) (z : ℤ) (u : List ℕ) → triple (m, n, z) ++ u ≡ 40 ∷ (decimal m ++ (number n ++ (amount z ++ u)))
triple_text m n z u = ap (λ t. 40 ∷ t) (append_assoc (decimal m) (number n ++ amount z) u ∙ ap (λ t. decimal m ++ t) (append_assoc (number n) (amount z) u))

-- a text begins with one triple
pub triple_told : Told triple ShortTriple Free
triple_told = record { once = one; like = λ x l t like f. f; loose = λ x l o. tt }
  where
    one : (x y : ℕ × ℕ × ℤ) (u t : List ℕ) → ShortTriple x → ShortTriple y → Open u → Free y t → triple x ++ u ≡ triple y ++ t → (x ≡ y) × (u ≡ t)
    one (m, m', y) (n, n', z) u t (hm, hm', hy) (hn, hn', hz) bare f e =
        let a = once m n (number m' ++ (amount y ++ u)) (number n' ++ (amount z ++ t)) hm hn (λ d. omega arith) (λ d. absurd (omega arith)) (tail 40 _ _ (sym (triple_text m m' y u) ∙ e ∙ triple_text n n' z t)) in
        let b = item_told.once m' n' (amount y ++ u) (amount z ++ t) hm' hn' (λ d. omega arith) (λ d. absurd (omega arith)) a.1 in
        let c = amount_told_lem.once y z u t hy hz bare tt b.1 in
        ((λ i. (a.0 i, b.0 i, c.0 i)), c.1)

-- some number, pair and triple
pub some_number : (n : ℕ) × Short n
some_number = (0, omega arith)

-- some pair
pub some_pair : (x : ℕ × ℤ) × ShortPair x
some_pair = ((0, pos 0), (omega arith, omega arith))

-- some triple
pub some_triple : (x : ℕ × ℕ × ℤ) × ShortTriple x
some_triple = ((0, 0, pos 0), (omega arith, omega arith, omega arith))

-- no digit begins what is left of a list
pub open_many : {X : Type 0} (text : X → List ℕ) (xs : List X) (z : List ℕ) → Open (flat_map (λ x. 32 ∷ text x) xs ++ (41 ∷ z))
open_many text [] z = λ d. omega arith
open_many text (x ∷ xs) z = λ d. omega arith

-- items, each after a blank
row_laws : {X : Type 0} {text : X → List ℕ} {ok : X → Type 0} {tight : X → List ℕ → Type 0} → Told text ok tight → ((x : X) × ok x) → ((x : X) → ok x → 0 < length (text x)) → ItemLaws text ok tight (Row text)
row_laws {X} {text} told some long = record {
  told = told;
  some = some;
  long = long;
  first = λ x xs t h e. (flat_map (λ y. 32 ∷ text y) xs ++ codes ")", ap (drop 1) e ∙ append_assoc (text x) (flat_map (λ y. 32 ∷ text y) xs) (codes ")"), open_many text xs [], refl);
  none = λ x t u h e f. omega (arith, ap length (sym f ∙ ap (drop 1) e), length-append (text x) u, long x h);
}

-- numbers, also in brackets of their own
pub number_laws : ItemLaws decimal Short Tight RowOrList
number_laws = record { told = number_told; some = some_number; long = λ n h. decimal_nonempty n (short_fits n h); first = first; none = none }
  where
    first : (n : ℕ) (ns : List ℕ) (t : List ℕ) → Short n → RowOrList (n ∷ ns) t → (u : List ℕ) × (drop 1 t ≡ decimal n ++ u) × Open u × RowOrList ns u
    first n ns t h l = (numbers ns ++ (41 ∷ l.after), go l.written ∙ append_assoc (decimal n) (numbers ns) (41 ∷ l.after), open_many decimal ns l.after, record { after = l.after; ends = l.ends; written = inr refl })
      where
        go : (t ≡ codes "(" ++ ((decimal n ++ numbers ns) ++ (codes ")" ++ l.after))) ⊎ (t ≡ numbers (n ∷ ns) ++ (codes ")" ++ l.after)) → drop 1 t ≡ (decimal n ++ numbers ns) ++ (41 ∷ l.after)
        go (inl e) = ap (drop 1) e
        go (inr e) = ap (drop 1) e

    none : (n : ℕ) (t u : List ℕ) → Short n → RowOrList [] t → drop 1 t ≡ decimal n ++ u → ⊥
    none n t u h l f = go l.written l.ends
      where
        digit : Digit (ahead (decimal n ++ u))
        digit = leading n u h

        go : (t ≡ codes "(" ++ (codes ")" ++ l.after)) ⊎ (t ≡ codes ")" ++ l.after) → (l.after ≡ []) ⊎ (l.after ≡ codes ")") → ⊥
        go (inl w) _ = omega (arith, digit, ap ahead (sym f ∙ ap (drop 1) w))
        go (inr w) (inl z) = omega (arith, digit, ap ahead (sym f ∙ ap (drop 1) w ∙ z))
        go (inr w) (inr z) = omega (arith, digit, ap ahead (sym f ∙ ap (drop 1) w ∙ z))

-- pairs
pub pair_laws : ItemLaws pair ShortPair Free (Row pair)
pair_laws = row_laws pair_told some_pair (λ x h. omega arith)

-- triples
pub triple_laws : ItemLaws triple ShortTriple Free (Row triple)
triple_laws = row_laws triple_told some_triple (λ x h. omega arith)
