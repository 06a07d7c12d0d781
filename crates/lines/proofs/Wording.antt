-- The words, tried one by one. Assumes nothing.
use Rattle.std.proofs.Common.{◌≡◌, ℕ, zero, suc, ◌+◌, ◌<◌, ◌≤◌, Bool, true, false, cond, ◌&&◌, eqb, ◌⊎◌, List, [], ◌∷◌, ◌++◌, map, length, get_or, take, drop, Some, None, Option, sym, refl, ap, ◌∙◌, subst, inl, inr, ⊎_elim, append_assoc, append-nil, arith, length-append, take-append-drop, below_more}
use mathlib.Core.List.{append_cancel_left}
use Rattle.std.proofs.lemmas.List.{take-take, take_all, get_or-take, get_or_append_left, get_or-map, length-take-le}
use Rattle.std.proofs.lemmas.Bool.{cases_lt, cond-true, eqb-true, eq-eqb, and_parts, false≢true}
use Rattle.std.specs.declared.cmp.Ordering.{Ordering}
use Rattle.std.specs.declared.cmp.Ordering.TheVariants.{Less, Equal, Greater}
use Rattle.std.specs.Ordering.{ord_max, nat_cmp, is_lt}
use Rattle.std.specs.Cmp.{nat_cmp_is}
use Rattle.std.specs.List.{zip, prefix_len}
use Rattle.lines.specs.declared.word.Word.{Word}
use Rattle.lines.specs.declared.word.Word.TheVariants.{Casebook, Places, Arc, Once, Order, Budget, Seal, Claim, Price, Sample, Strike, Trim, Split, Close, Offer, Verdict}
use Rattle.lines.specs.Texts.{Shared, Stops, Halts, Open, Is, Piece, Free, Ends}
use Rattle.lines.specs.Words.{spelt, words, Any}
use Rattle.lines.specs.Items.{Told}
use Rattle.lines.proofs.Halting.{halt_after}

-- where a word stands in the list
place : (w : Word) → (j : ℕ) × (j < 16) × (get_or words j Casebook ≡ w)
place Casebook = (0, omega arith, refl)
place Places = (1, omega arith, refl)
place Arc = (2, omega arith, refl)
place Once = (3, omega arith, refl)
place Order = (4, omega arith, refl)
place Budget = (5, omega arith, refl)
place Seal = (6, omega arith, refl)
place Claim = (7, omega arith, refl)
place Price = (8, omega arith, refl)
place Sample = (9, omega arith, refl)
place Strike = (10, omega arith, refl)
place Trim = (11, omega arith, refl)
place Split = (12, omega arith, refl)
place Close = (13, omega arith, refl)
place Offer = (14, omega arith, refl)
place Verdict = (15, omega arith, refl)

-- a word, and then anything but a digit
abbrev pub AnyWord : List ℕ → Type 0
AnyWord = Piece spelt Any (λ _. Open)

-- t begins with p
abbrev Starts : List ℕ → List ℕ → Type 0
Starts p t = (u : List ℕ) × (t ≡ p ++ u)

-- two bytes are the same
abbrev pub tie : ℕ × ℕ → Bool
tie p = eqb p.0 p.1

-- so many as are the same from the front on
pub shared : (t w : List ℕ) → Shared t w (prefix_len tie (zip t w))
shared [] w = record { in_text = omega arith; in_word = omega arith; same = refl; apart = λ a b e. omega arith }
shared (x ∷ t) [] = record { in_text = omega arith; in_word = omega arith; same = refl; apart = λ a b e. omega arith }
shared (x ∷ t) (y ∷ w) = go (shared t w) (eqb x y) refl
  where
    n : ℕ
    n = prefix_len tie (zip t w)

    go : Shared t w n → (b : Bool) → eqb x y ≡ b → Shared (x ∷ t) (y ∷ w) (cond b (1 + n) 0)
    go s false e = record { in_text = omega arith; in_word = omega arith; same = refl; apart = λ a b f. false≢true (sym e ∙ eq-eqb x y f) }
    go s true e =
        let one : suc n ≡ 1 + n = omega arith in
        let first : x ≡ y = eqb-true x y e in
        subst (Shared (x ∷ t) (y ∷ w)) one (record { in_text = omega (arith, s.in_text); in_word = omega (arith, s.in_word); same = (λ i. first i ∷ s.same i); apart = λ a b f. s.apart (omega arith) (omega arith) f })

-- a text stops to begin with a word where it has no more bytes in common with it
stops_agreed : (l p : List ℕ) (n : ℕ) → Shared l p n → n < length p → Stops (Starts p) l n
stops_agreed l p n a short = record {
  within = a.in_text;
  before = (drop n p, ([], ap (λ t. t ++ drop n p) a.same ∙ take-append-drop n p ∙ sym (append-nil p)));
  here = λ lt t m. a.apart lt short (sym (get_or_append_left (take (n + 1) l) t 0 n (front lt) ∙ get_or-take (n + 1) l n 0 (omega arith)) ∙ ap (λ x. get_or x n 0) m.1 ∙ get_or_append_left p m.0 0 n short);
  whole = λ m. ⊎_elim (λ lt. a.apart lt short (ap (λ x. get_or x n 0) m.1 ∙ get_or_append_left p m.0 0 n short)) (λ le. omega (arith, ap length m.1, length-append p m.0, short)) (cases_lt n (length l));
}
  where
    front : n < length l → n < length (take (n + 1) l)
    front lt = let le : n + 1 ≤ length l = omega arith in subst (λ k. n < k) (sym (length-take-le (n + 1) l le)) (omega arith)

-- i words are tried, and best is the most that one of them has in common with l
pub record Tried (i : ℕ) (l : List ℕ) (best : ℕ) : Type 0 where
  pub within : best ≤ length l
  pub live : (t : List ℕ) × AnyWord (take best l ++ t)
  pub each : (j : ℕ) → j < i → (k : ℕ) × (k ≤ best) × Stops (Starts (spelt (get_or words j Casebook))) l k

-- before the first word
pub tried_none : (l : List ℕ) → Tried 0 l 0
tried_none l = record { within = omega arith; live = (spelt Seal, (Seal, [], tt, (λ d. omega arith), sym (append-nil (spelt Seal)))); each = λ j lt. absurd (omega arith) }

-- the greater of two
greater : (a b r : ℕ) → r ≡ ord_max nat_cmp a b → ((r ≡ b) × (a ≤ b)) ⊎ ((r ≡ a) × (b ≤ a))
greater a b r e = ⊎_elim (λ lt. inr (e ∙ at (sym (nat_cmp_is b a Less lt)), omega arith)) (λ le. inl (e ∙ ⊎_elim (λ lt. at (sym (nat_cmp_is b a Greater lt))) (λ ge. at (sym (nat_cmp_is b a Equal (omega arith)))) (cases_lt a b), le)) (cases_lt b a)
  where
    at : {o : Ordering} → nat_cmp b a ≡ o → ord_max nat_cmp a b ≡ cond (is_lt o) a b
    at same = ap (λ o. cond (is_lt o) a b) same

-- one more word that does not begin the text
pub tried_more : (i : ℕ) (l : List ℕ) (best n b : ℕ) → Tried i l best → Shared l (spelt (get_or words i Casebook)) n → n < length (spelt (get_or words i Casebook)) → b ≡ ord_max nat_cmp best n → Tried (i + 1) l b
tried_more i l best n b s a short most = record {
  within = ⊎_elim (λ g. omega (arith, a.in_text)) (λ g. omega (arith, s.within)) (greater best n b most);
  live = ⊎_elim (λ g. at n g.0 (drop n (spelt w), (w, [], tt, (λ d. omega arith), ap (λ t. t ++ drop n (spelt w)) a.same ∙ take-append-drop n (spelt w) ∙ sym (append-nil (spelt w))))) (λ g. at best g.0 s.live) (greater best n b most);
  each = below_more _ i (λ j lt. let o = s.each j lt in (o.0, ⊎_elim (λ g. omega (arith, o.1)) (λ g. omega (arith, o.1)) (greater best n b most), o.2)) (n, ⊎_elim (λ g. omega arith) (λ g. omega arith) (greater best n b most), stops_agreed l (spelt w) n a short);
}
  where
    w : Word
    w = get_or words i Casebook

    at : (k : ℕ) → b ≡ k → ((t : List ℕ) × AnyWord (take k l ++ t)) → (t : List ℕ) × AnyWord (take b l ++ t)
    at k e live = subst (λ k. (t : List ℕ) × AnyWord (take k l ++ t)) (sym e) live

-- a set that stops at k has no text that goes on past it
beyond : (M : List ℕ → Type 0) (l : List ℕ) (k best : ℕ) → Stops M l k → k ≤ best → best < length l → (t : List ℕ) → M (take (best + 1) l ++ t) → ⊥
beyond M l k best s le lt t m =
    let le' : k + 1 ≤ best + 1 = omega arith in
    let cut : take (best + 1) l ≡ take (k + 1) l ++ drop (k + 1) (take (best + 1) l) = sym (take-append-drop (k + 1) (take (best + 1) l)) ∙ ap (λ x. x ++ drop (k + 1) (take (best + 1) l)) (take-take (k + 1) (best + 1) l le') in
    s.here (omega arith) (drop (k + 1) (take (best + 1) l) ++ t) (subst M (ap (λ x. x ++ t) cut ∙ append_assoc (take (k + 1) l) (drop (k + 1) (take (best + 1) l)) t) m)

-- every word is tried
pub tried_all : (l : List ℕ) (best : ℕ) → Tried 16 l best → Halts AnyWord l (drop best l)
tried_all l best s = record {
  passed = best;
  stops = record { within = s.within; before = s.live; here = λ lt t m. none m.0 (λ k le st. beyond (Starts (spelt m.0)) l k best st le lt t (m.1, m.4)); whole = λ m. none m.0 (λ k le st. st.whole (m.1, m.4)) };
  left = refl;
}
  where
    none : (w : Word) → ((k : ℕ) → k ≤ best → Stops (Starts (spelt w)) l k → ⊥) → ⊥
    none w f = let p = place w in let o = s.each p.0 p.1 in f o.0 o.1 (subst (λ v. Stops (Starts (spelt v)) l o.0) p.2 o.2)

-- a word that is there whole
pub found : (l p : List ℕ) (n : ℕ) → take n l ≡ take n p → n ≡ length p → l ≡ p ++ drop n l
found l p n same all = sym (take-append-drop n l) ∙ ap (λ t. t ++ drop n l) (same ∙ take_all n p (omega arith))

-- one text, and the end
pub literal_none : (l p : List ℕ) (n : ℕ) → Shared l p n → n < length p → Halts (Is p) l (drop n l)
literal_none l p n a short =
    let s = stops_agreed l p n a short in
    record {
      passed = n;
      left = refl;
      stops = record { within = s.within; before = (drop n p, ap (λ t. t ++ drop n p) a.same ∙ take-append-drop n p); here = λ lt t m. s.here lt t ([], m ∙ sym (append-nil p)); whole = λ m. s.whole ([], m ∙ sym (append-nil p)) };
    }

-- the text is there, and what follows it
pub literal_some : {X : Type 0} (o : Option X) (l p l₁ rest : List ℕ) → l ≡ p ++ l₁ → Ends (Is []) l₁ o rest → Ends (Is p) l o rest
literal_some None l p l₁ rest e h =
    subst (λ x. Halts (Is p) x rest) (sym e)
    (halt_after (Is p) (Is []) p l₁ rest h (λ t m. ap (λ x. p ++ x) m ∙ append-nil p) (λ t like m. append_cancel_left p t [] (m ∙ sym (append-nil p))))
literal_some (Some x) l p l₁ rest e h = e ∙ ap (λ t. p ++ t) h ∙ append-nil p

-- neither of two words begins the other
differ : List ℕ → List ℕ → Bool
differ [] q = false
differ (a ∷ p) [] = false
differ (a ∷ p) (b ∷ q) = cond (eqb a b) (differ p q) true

-- p and no word of the list begin each other
all_differ : List ℕ → List (List ℕ) → Bool
all_differ p [] = true
all_differ p (q ∷ qs) = differ p q && all_differ p qs

-- no word of the list begins another
pairwise : List (List ℕ) → Bool
pairwise [] = true
pairwise (p ∷ ps) = all_differ p ps && pairwise ps

-- two texts that begin with such words differ
differs : (p q t u : List ℕ) → differ p q ≡ true → p ++ t ≡ q ++ u → ⊥
unfolding differ
differs [] q t u d e = false≢true d
differs (a ∷ p) [] t u d e = false≢true d
differs (a ∷ p) (b ∷ q) t u d e =
    let same : a ≡ b = cc in
    differs p q t u (sym (cond-true (eqb a b) (differ p q) true (eq-eqb a b same)) ∙ d) (cc)

-- the same, by the place in the list
differs_at : (p : List ℕ) (qs : List (List ℕ)) (j : ℕ) → all_differ p qs ≡ true → j < length qs → differ p (get_or qs j []) ≡ true
unfolding all_differ
differs_at p [] j d lt = absurd (omega arith)
differs_at p (q ∷ qs) zero d lt = (and_parts (differ p q) (all_differ p qs) d).0
differs_at p (q ∷ qs) (suc j) d lt = differs_at p qs j (and_parts (differ p q) (all_differ p qs) d).1 (omega arith)

-- a text begins with at most one word of such a list
unique : (ps : List (List ℕ)) → pairwise ps ≡ true → (i j : ℕ) → i < length ps → j < length ps → (t u : List ℕ) → get_or ps i [] ++ t ≡ get_or ps j [] ++ u → i ≡ j
unfolding pairwise
unique [] h i j li lj t u e = absurd (omega arith)
unique (p ∷ ps) h zero zero li lj t u e = refl
unique (p ∷ ps) h zero (suc j) li lj t u e = absurd (differs p (get_or ps j []) t u (differs_at p ps j (and_parts (all_differ p ps) (pairwise ps) h).0 (omega arith)) e)
unique (p ∷ ps) h (suc i) zero li lj t u e = absurd (differs p (get_or ps i []) u t (differs_at p ps i (and_parts (all_differ p ps) (pairwise ps) h).0 (omega arith)) (sym e))
unique (p ∷ ps) h (suc i) (suc j) li lj t u e = ap suc (unique ps (and_parts (all_differ p ps) (pairwise ps) h).1 i j (omega arith) (omega arith) t u e)

apart : pairwise (map spelt words) ≡ true
unfolding pairwise all_differ differ
apart = refl

-- the spelling of a word, by its place
spelt_at : (w : Word) → get_or (map spelt words) (place w).0 [] ≡ spelt w
spelt_at w = get_or-map spelt words (place w).0 Casebook [] (place w).1 ∙ ap spelt (place w).2

-- a text begins with at most one word of a form
one_word : (w v : Word) (t u : List ℕ) → spelt w ++ t ≡ spelt v ++ u → w ≡ v
one_word w v t u e =
    let same = unique (map spelt words) apart (place w).0 (place v).0 (place w).1 (place v).1 t u (ap (λ p. p ++ t) (spelt_at w) ∙ e ∙ ap (λ p. p ++ u) (sym (spelt_at v))) in
    sym (place w).2 ∙ ap (λ i. get_or words i Casebook) same ∙ (place v).2

-- a text begins with at most one word
pub word_told : Told spelt Any Free
word_told = record { once = λ w v u t a b o f e. let same = one_word w v u t e in (same, append_cancel_left (spelt w) u t (e ∙ ap (λ x. spelt x ++ t) (sym same))); like = λ w l t like f. f; loose = λ w l o. tt }
