-- Where a reader halts: at a byte, at a piece, and after one. Assumes nothing.
use Rattle.lines.specs.Numerals.{meet}
use Rattle.std.proofs.Common.{◌≡◌, ℕ, ◌+◌, ◌⊎◌, List, [], ◌∷◌, ◌++◌, length, take, drop, sym, refl, ap, ◌∙◌, subst, inl, inr, append_assoc, append-nil, arith, take-append-drop}
use lib.Seq.{drop-append-add}
use Rattle.lines.specs.Texts.{Halts, Digit, ahead, Open, Is, Byte, Either, Piece}
use Rattle.lines.specs.Items.{Like, Told}
use Rattle.lines.proofs.Stopping.{stop_now, stop_after}

-- M has a text
abbrev pub Live : (List ℕ → Type 0) → Type 0
Live M = (t : List ℕ) × M t

-- no text of M begins with a digit
abbrev pub Undigited : (List ℕ → Type 0) → Type 0
Undigited M = (t : List ℕ) → M t → Open t

-- what may stand after a number
pub record Follows (M : List ℕ → Type 0) : Type 0 where
  pub live : Live M
  pub un : Undigited M

-- no text of M begins as l does
pub halt_now : (M : List ℕ → Type 0) (l : List ℕ) → Live M → ((t : List ℕ) → Like l t → M t → ⊥) → Halts M l l
halt_now M l live bar = record { passed = 0; stops = stop_now M l live bar; left = refl }

-- after p, the texts of N follow
pub halt_after : (M N : List ℕ → Type 0) (p l rest : List ℕ) → Halts N l rest → ((t : List ℕ) → N t → M (p ++ t)) → ((t : List ℕ) → Like l t → M (p ++ t) → N t) → Halts M (p ++ l) rest
halt_after M N p l rest h back forth = record { passed = length p + h.passed; stops = stop_after M N p l h.passed h.stops back forth; left = h.left ∙ sym (drop-append-add p l h.passed) }

-- of texts that begin as l does, M and N have the same
pub halt_wider : (M N : List ℕ → Type 0) (l rest : List ℕ) → ((t : List ℕ) → M t → N t) → ((t : List ℕ) → Like l t → N t → M t) → Halts M l rest → Halts N l rest
halt_wider M N l rest back forth h = halt_after N M [] l rest h back forth

-- the same, of equal texts
pub halt_at : (M : List ℕ → Type 0) (l l' rest rest' : List ℕ) → l ≡ l' → rest ≡ rest' → Halts M l' rest' → Halts M l rest
halt_at M l l' rest rest' e f h = subst (λ x. Halts M x rest) (sym e) (subst (λ x. Halts M l' x) (sym f) h)

-- a byte, and what follows it
pub byte_live : (b : ℕ) (N : List ℕ → Type 0) → Live N → Live (Byte b N)
byte_live b N (t, n) = (b ∷ t, (t, n, refl))

-- a byte that is no digit may stand after a number
pub byte_follows : (b : ℕ) (N : List ℕ → Type 0) → (Digit b → ⊥) → Live N → Follows (Byte b N)
byte_follows b N apart live = record { live = byte_live b N live; un = λ t m d. apart (subst Digit (ap ahead m.2) d) }

module _ {N : List ℕ → Type 0} {l rest : List ℕ} where
  -- another byte is next
  pub byte_none : {b : ℕ} → Live N → (rest ≡ l) × (ahead l ≡ b → ⊥) → Halts (Byte b N) l rest
  byte_none {b} live (same, bar) = subst (Halts (Byte b N) l) (sym same) (halt_now (Byte b N) l (byte_live b N live) (λ t like m. bar (sym like ∙ ap ahead m.2)))

  -- the byte is next, and what follows it halts
  pub byte_some : {b : ℕ} {l₁ : List ℕ} → l ≡ b ∷ l₁ → Halts N l₁ rest → Halts (Byte b N) l rest
  byte_some {b} {l₁} e h = subst (λ x. Halts (Byte b N) x rest) (sym e) (halt_after (Byte b N) N (b ∷ []) l₁ rest h (λ t n. (t, n, refl)) (λ t like m. subst N (sym (tail t m.0 m.2)) m.1))
    where
      tail : (t u : List ℕ) → b ∷ t ≡ b ∷ u → t ≡ u
      tail t u e = cc

-- one text, byte by byte
module _ {p l rest : List ℕ} where
  -- the first byte and the rest of one text
  as_is : {b : ℕ} → Halts (Byte b (Is p)) l rest → Halts (Is (b ∷ p)) l rest
  as_is {b} h = halt_wider (Byte b (Is p)) (Is (b ∷ p)) l rest (λ t m. m.2 ∙ ap (λ x. b ∷ x) m.1) (λ t like m. (p, refl, m)) h

  -- the byte is next, and the rest halts
  pub is_some : {b : ℕ} {l₁ : List ℕ} → l ≡ b ∷ l₁ → Halts (Is p) l₁ rest → Halts (Is (b ∷ p)) l rest
  is_some e h = as_is (byte_some e h)

-- a text that begins with no digit may stand after a number
pub is_follows : (b : ℕ) (p : List ℕ) → (Digit b → ⊥) → Follows (Is (b ∷ p))
is_follows b p apart = record { live = (b ∷ p, refl); un = λ t m d. apart (subst Digit (ap ahead m) d) }

-- one of two bytes
pub either_none : (a b : ℕ) (M N : List ℕ → Type 0) (l : List ℕ) → Live M → (ahead l ≡ a → ⊥) → (ahead l ≡ b → ⊥) → Halts (Either (Byte a M) (Byte b N)) l l
either_none a b M N l live no-a no-b = halt_now _ l (a ∷ live.0, inl (live.0, live.1, refl)) go
  where
    go : (t : List ℕ) → Like l t → Either (Byte a M) (Byte b N) t → ⊥
    go t like (inl m) = no-a (sym like ∙ ap ahead m.2)
    go t like (inr m) = no-b (sym like ∙ ap ahead m.2)

module _ (a b : ℕ) (M N : List ℕ → Type 0) (l l₁ rest : List ℕ) (apart : a ≡ b → ⊥) where
  -- the first byte is next
  pub either_left : l ≡ a ∷ l₁ → Halts M l₁ rest → Halts (Either (Byte a M) (Byte b N)) l rest
  either_left e h = halt_wider (Byte a M) (Either (Byte a M) (Byte b N)) l rest (λ t m. inl m) go (byte_some e h)
    where
      go : (t : List ℕ) → Like l t → Either (Byte a M) (Byte b N) t → Byte a M t
      go t like (inl m) = m
      go t like (inr m) = absurd (apart (sym (ap ahead e) ∙ sym like ∙ ap ahead m.2))

  -- the second byte is next
  pub either_right : l ≡ b ∷ l₁ → Halts N l₁ rest → Halts (Either (Byte a M) (Byte b N)) l rest
  either_right e h = halt_wider (Byte b N) (Either (Byte a M) (Byte b N)) l rest (λ t m. inr m) go (byte_some e h)
    where
      go : (t : List ℕ) → Like l t → Either (Byte a M) (Byte b N) t → Byte b N t
      go t like (inl m) = absurd (apart (sym (ap ahead m.2) ∙ like ∙ ap ahead e))
      go t like (inr m) = m

module _ {X : Type 0} {text : X → List ℕ} {ok : X → Type 0} {tight : X → List ℕ → Type 0} (told : Told text ok tight) {N : X → List ℕ → Type 0} (fol : (x : X) → Follows (N x)) where
  -- what follows a piece begins with no digit
  narrow : (t : List ℕ) → Piece text ok N t → Piece text ok (λ _. Open) t
  narrow t (x, u, p, n, e) = (x, u, p, (fol x).un u n, e)

  -- where a piece breaks off, it does so whatever follows
  pub piece_none : {l rest : List ℕ} → Halts (Piece text ok (λ _. Open)) l rest → Halts (Piece text ok N) l rest
  piece_none {l} {rest} h = record {
    passed = h.passed;
    left = h.left;
    stops = record {
      within = h.stops.within;
      before = find h.stops.before;
      here = λ lt t m. h.stops.here lt t (narrow _ m);
      whole = λ m. h.stops.whole (narrow _ m);
    };
  }
    where
      k : ℕ
      k = h.passed

      find : ((t : List ℕ) × Piece text ok (λ _. Open) (take k l ++ t)) → (t : List ℕ) × Piece text ok N (take k l ++ t)
      find (t, (x, u, p, o, e)) = go (meet (take k l) t (text x) u e)
        where
          more : List ℕ
          more = (fol x).live.0

          within : (v : List ℕ) → text x ≡ take k l ++ v → (t : List ℕ) × Piece text ok N (take k l ++ t)
          within v f = (v ++ more, (x, more, p, (fol x).live.1, sym (append_assoc (take k l) v more) ∙ ap (λ z. z ++ more) (sym f)))

          beyond : (v : List ℕ) → take k l ≡ text x ++ v → u ≡ v ++ t → (t : List ℕ) × Piece text ok N (take k l ++ t)
          beyond [] f g = within [] (sym (append-nil _) ∙ sym f ∙ sym (append-nil _))
          beyond (b ∷ v) f g = absurd (h.stops.whole (x, (b ∷ v) ++ drop k l, p, λ d. o (subst (λ z. Digit (ahead z)) (sym g) d), sym (take-append-drop k l) ∙ ap (λ z. z ++ drop k l) f ∙ append_assoc (text x) (b ∷ v) (drop k l)))

          go : (((v : List ℕ) × (text x ≡ take k l ++ v) × (t ≡ v ++ u)) ⊎ ((v : List ℕ) × (take k l ≡ text x ++ v) × (u ≡ v ++ t))) → (t : List ℕ) × Piece text ok N (take k l ++ t)
          go (inl (v, f, g)) = within v f
          go (inr (v, f, g)) = beyond v f g

  -- where what follows a piece breaks off
  pub piece_some : {l rest : List ℕ} (x : X) {l₁ : List ℕ} → ok x × (l ≡ text x ++ l₁) × tight x l₁ → Halts (N x) l₁ rest → Halts (Piece text ok N) l rest
  piece_some {l} {rest} x {l₁} (good, e, close) h =
      subst (λ s. Halts (Piece text ok N) s rest) (sym e) (halt_after (Piece text ok N) (N x) (text x) l₁ rest h (λ t m. (x, t, good, m, refl)) forth)
    where
      forth : (t : List ℕ) → Like l₁ t → Piece text ok N (text x ++ t) → N x t
      forth t like (y, u, p, m, f) =
          let o = told.once y x u t p good ((fol y).un u m) (told.like x l₁ t like close) (sym f) in
          subst (λ z. N z t) o.0 (subst (N y) o.1 m)

  -- two ways to take a piece of one text are one
  pub piece_once : {t t' : List ℕ} → t ≡ t' → (p : Piece text ok N t) (q : Piece text ok N t') → (p.0 ≡ q.0) × (p.1 ≡ q.1)
  piece_once same (x, u, h, m, e) (y, v, k, n, f) = told.once x y u v h k ((fol x).un u m) (told.loose y v ((fol y).un v n)) (sym e ∙ same ∙ f)

-- anything but a digit may stand after a number
pub open_follows : Follows Open
open_follows = record { live = ([], λ d. omega arith); un = λ t o. o }
