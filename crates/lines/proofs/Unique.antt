-- A line is read in one way. Assumes nothing.
use Rattle.lines.specs.Numerals.{leading}
use Rattle.lines.specs.Laws.{number_told, item_told, signed_told, pair_told, triple_told, open_many}
use Rattle.std.proofs.Common.{◌≡◌, ℕ, ◌<◌, ◌≤◌, ◌⊎◌, List, [], ◌∷◌, ◌++◌, take, drop, codes, decimal, sym, refl, ap, ◌∙◌, subst, inl, inr, append_assoc, arith, take-append-drop}
use Rattle.std.specs.List.{flat_map, AllByRecursion}
use Rattle.std.proofs.lemmas.Bool.{cases_lt}
use Rattle.lines.specs.declared.word.Word.{Word}
use Rattle.lines.specs.declared.word.Word.TheVariants as word
use Rattle.lines.specs.Forms.{Form, Casebook, Places, Arc, Once, Order, Budget, Seal, Claim, Price, Sample, Strike, Trim, Split, Close, Offer, Verdict, Formed, text, Proper, numbers}
use Rattle.lines.specs.Texts.{ahead, Item, Many, Listed}
use Rattle.lines.specs.Words.{headed, Body, Ending}
use Rattle.lines.specs.Impossible.{Begins, FirstImpossible, OneReading}
use Rattle.lines.specs.Items.{Told}
use Rattle.lines.proofs.Halting.{piece_once}
use Rattle.lines.proofs.Listing.{routes_follows}
use Rattle.lines.proofs.Bodies.{ending, one, two, three, four, triples_follow, body}
use Rattle.lines.proofs.Wording.{word_told}
use Rattle.lines.proofs.Forming.{made, parts}

-- what follows one byte
tail : (b : ℕ) (p q : List ℕ) → b ∷ p ≡ b ∷ q → p ≡ q
tail b p q e = cc

-- a list of items has one text
many_once : {X : Type 0} {text : X → List ℕ} {ok : X → Type 0} {tight : X → List ℕ → Type 0} (told : Told text ok tight) (z : List ℕ) (xs ys : List X) → AllByRecursion ok xs → AllByRecursion ok ys → flat_map (λ x. 32 ∷ text x) xs ++ (41 ∷ z) ≡ flat_map (λ x. 32 ∷ text x) ys ++ (41 ∷ z) → xs ≡ ys
many_once told z [] [] h k e = refl
many_once told z [] (y ∷ ys) h k e = absurd (omega (arith, ap ahead e))
many_once told z (x ∷ xs) [] h k e = absurd (omega (arith, ap ahead e))
many_once {text} told z (x ∷ xs) (y ∷ ys) (h, hs) (k, ks) e =
    let o = told.once x y (flat_map (λ q. 32 ∷ text q) xs ++ (41 ∷ z)) (flat_map (λ q. 32 ∷ text q) ys ++ (41 ∷ z)) h k (open_many text xs z) (told.loose y (flat_map (λ q. 32 ∷ text q) ys ++ (41 ∷ z)) (open_many text ys z))
    (sym (append_assoc (text x) (flat_map (λ q. 32 ∷ text q) xs) (41 ∷ z)) ∙ tail 32 _ _ e ∙ append_assoc (text y) (flat_map (λ q. 32 ∷ text q) ys) (41 ∷ z)) in
    λ i. o.0 i ∷ many_once told z xs ys hs ks o.1 i

-- two ways to read a list are one
many_same : {X : Type 0} {text : X → List ℕ} {ok : X → Type 0} {tight : X → List ℕ → Type 0} (told : Told text ok tight) (z t t' : List ℕ) → t ≡ t' → (p : Many text ok (41 ∷ z) t) (q : Many text ok (41 ∷ z) t') → p.0 ≡ q.0
many_same told z t t' same (xs, h, e) (ys, k, f) = many_once told z xs ys h k (sym e ∙ same ∙ f)

-- the same of a list in brackets
listed_same : (t t' : List ℕ) → t ≡ t' → (p : Listed t) (q : Listed t') → p.0 ≡ q.0
listed_same t t' same ([], h, e) ([], k, f) = refl
listed_same t t' same ([], h, e) (n ∷ ns, (k, ks), f) = absurd (omega (arith, ap ahead (sym e ∙ same ∙ f ∙ append_assoc (decimal n) (numbers ns) (codes "))")), leading n (numbers ns ++ codes "))") k))
listed_same t t' same (m ∷ ms, (h, hs), e) ([], k, f) = absurd (omega (arith, ap ahead (sym f ∙ sym same ∙ e ∙ append_assoc (decimal m) (numbers ms) (codes "))")), leading m (numbers ms ++ codes "))") h))
listed_same t t' same (m ∷ ms, (h, hs), e) (n ∷ ns, (k, ks), f) =
    let o = number_told.once m n (numbers ms ++ codes "))") (numbers ns ++ codes "))") h k (open_many decimal ms (codes ")")) (number_told.loose n (numbers ns ++ codes "))") (open_many decimal ns (codes ")")))
    (sym (append_assoc (decimal m) (numbers ms) (codes "))")) ∙ sym e ∙ same ∙ f ∙ append_assoc (decimal n) (numbers ns) (codes "))")) in
    λ i. o.0 i ∷ many_once number_told (codes ")") ms ns hs ks o.1 i

-- the same of one number
one_same : (t t' : List ℕ) → t ≡ t' → (p : Item Ending t) (q : Item Ending t') → p.0 ≡ q.0
one_same t t' same p q = (piece_once item_told (λ _. ending) same p q).0

-- what follows a word is one form
same_made : (w : Word) (t : List ℕ) (p q : Body w t) → (made w t p).form ≡ (made w t q).form
unfolding made Body
same_made word.Casebook t p q = refl
same_made word.Places t p q = ap Places (one_same t t refl p q)
same_made word.Arc t p q =
    let a = piece_once item_told (λ _. four) refl p q in
    let b = piece_once item_told (λ _. three) a.1 p.3 q.3 in
    let c = piece_once item_told (λ _. two) b.1 p.3.3 q.3.3 in
    let d = piece_once item_told (λ _. one) c.1 p.3.3.3 q.3.3.3 in
    let e = one_same _ _ d.1 p.3.3.3.3 q.3.3.3.3 in
    λ i. Arc (record { place = a.0 i; start = b.0 i; end = c.0 i; route = d.0 i; minutes = e i })
same_made word.Once t (u, (v, m, e₁), e) (u', (v', n, f₁), f) = ap Once (listed_same v v' (tail 40 _ _ (sym e₁ ∙ tail 32 _ _ (sym e ∙ f) ∙ f₁)) m n)
same_made word.Order t p q =
    let a = piece_once item_told (λ _. one) refl p q in
    λ i. Order (a.0 i) (one_same _ _ a.1 p.3 q.3 i)
same_made word.Budget t (u, p, e) (u', q, f) =
    let a = piece_once signed_told (λ _. triples_follow) (tail 32 _ _ (sym e ∙ f)) p q in
    λ i. Budget (a.0 i) (many_same triple_told [] _ _ a.1 p.3 q.3 i)
same_made word.Seal t p q = refl
same_made word.Claim t p q = ap Claim (one_same t t refl p q)
same_made word.Price t p q = ap Price (many_same pair_told [] t t refl p q)
same_made word.Sample t p q = refl
same_made word.Strike t p q = ap Strike (many_same pair_told [] t t refl p q)
same_made word.Trim t p q = refl
same_made word.Split t (n, u, h, (v, (w, m, e₂), e₁), e) (n', u', h', (v', (w', m', f₂), f₁), f) =
    let a = piece_once item_told (λ _. routes_follows) refl (n, u, h, (v, (w, m, e₂), e₁), e) (n', u', h', (v', (w', m', f₂), f₁), f) in
    λ i. Split (a.0 i) (listed_same w w' (tail 40 _ _ (sym e₂ ∙ tail 32 _ _ (sym e₁ ∙ a.1 ∙ f₁) ∙ f₂)) m m' i)
same_made word.Close t p q = ap Close (many_same pair_told [] t t refl p q)
same_made word.Offer t p q = ap Offer (many_same number_told [] t t refl p q)
same_made word.Verdict t p q = refl

-- a form's parts make the form
made_parts : (f : Form) (h : Proper f) → (made (parts f h).first (parts f h).rest (parts f h).items).form ≡ f
unfolding made parts Body
made_parts Casebook h = refl
made_parts (Places n) h = refl
made_parts (Arc a) h = refl
made_parts (Once ns) h = refl
made_parts (Order a b) h = refl
made_parts (Budget z xs) h = refl
made_parts Seal h = refl
made_parts (Claim n) h = refl
made_parts (Price xs) h = refl
made_parts Sample h = refl
made_parts (Strike xs) h = refl
made_parts Trim h = refl
made_parts (Split p ns) h = refl
made_parts (Close xs) h = refl
made_parts (Offer ns) h = refl
made_parts Verdict h = refl

-- forms with one word and one text after it are one
same_parts : (w v : Word) (s t : List ℕ) (p : Body w s) (q : Body v t) → w ≡ v → s ≡ t → (made w s p).form ≡ (made v t q).form
same_parts w v s t p q same e = go w same s e p
  where
    at : (s : List ℕ) → s ≡ t → (p : Body v s) → (made v s p).form ≡ (made v t q).form
    at s e p = subst (λ x. (p : Body v x) → (made v x p).form ≡ (made v t q).form) (sym e) (λ p. same_made v t p q) p

    go : (w : Word) → w ≡ v → (s : List ℕ) → s ≡ t → (p : Body w s) → (made w s p).form ≡ (made v t q).form
    go w same s e p = subst (λ x. (p : Body x s) → (made x s p).form ≡ (made v t q).form) (sym same) (at s e) p

-- a text is that of one form
one_form : (f g : Form) → Proper f → Proper g → text f ≡ text g → f ≡ g
unfolding headed
one_form f g h k e =
    let p = parts f h in
    let q = parts g k in
    let o = word_told.once p.first q.first p.rest q.rest tt tt ((body p.first).un p.rest p.items) tt (tail 40 _ _ (sym p.whole ∙ e ∙ q.whole)) in
    sym (made_parts f h) ∙ same_parts p.first q.first p.rest q.rest p.items q.items o.0 o.1 ∙ made_parts g k

-- a form begins with each of its fronts
begins_front : (l : List ℕ) (k : ℕ) → Formed l → Begins (take k l)
begins_front l k f = (drop k l, subst Formed (sym (take-append-drop k l)) f)

-- no form has an impossible byte
never_both : (l : List ℕ) (k : ℕ) → FirstImpossible l k → Formed l → ⊥
never_both l k (inl s) f = s.impossible (begins_front l k f)
never_both l k (inr s) f = s.none f

-- a line that begins some form begins it with each of its fronts
begins_all : (l : List ℕ) (k : ℕ) → Begins l → Begins (take k l)
begins_all l k (t, m) = (drop k l ++ t, subst Formed (ap (λ x. x ++ t) (sym (take-append-drop k l)) ∙ append_assoc (take k l) (drop k l) t) m)

-- a line has one first impossible byte
one_byte : (l : List ℕ) (j k : ℕ) → FirstImpossible l j → FirstImpossible l k → j ≡ k
one_byte l j k (inl a) (inl b) = go (cases_lt j k) (cases_lt k j)
  where
    go : (j < k) ⊎ (k ≤ j) → (k < j) ⊎ (j ≤ k) → j ≡ k
    go (inl lt) _ = absurd (a.impossible (b.least j lt))
    go (inr le) (inl lt) = absurd (b.impossible (a.least k lt))
    go (inr le) (inr ge) = omega arith
one_byte l j k (inl a) (inr b) = absurd (a.impossible (begins_all l j b.begins))
one_byte l j k (inr a) (inl b) = absurd (b.impossible (begins_all l k a.begins))
one_byte l j k (inr a) (inr b) = omega (arith, a.past, b.past)

-- a line is read in one way
pub one_reading : OneReading
one_reading = record { form = one_form; either = never_both; byte = one_byte }
