-- Items, each after a blank, to the end of the line. Assumes nothing.
use Rattle.lines.specs.Numerals.{leading}
use Rattle.lines.specs.Laws.{number_told, some_number}
use Rattle.std.proofs.Common.{◌≡◌, ℕ, ◌<◌, List, [], ◌∷◌, ◌++◌, length, Some, None, codes, decimal, Option, sym, refl, ap, ◌∙◌, inl, inr, append_assoc, arith, length-append}
use Rattle.std.specs.List.{flat_map}
use Rattle.lines.specs.Forms.{Short, numbers}
use Rattle.lines.specs.Texts.{Halts, ahead, Tight, Open, Is, Byte, Either, Piece, Many, Others, Listed, Routes, Ends}
use Rattle.lines.specs.Items.{Like, Told}
use Rattle.lines.proofs.Halting.{Live, Follows, halt_wider, byte_follows, either_none, either_left, either_right, is_some, piece_none, piece_some}

-- where what is left halts, the whole halts; where what is left is of M, the whole is
pub record Goes (M : List ℕ → Type 0) (l l' : List ℕ) : Type 0 where
  pub halts : (rest : List ℕ) → Halts M l' rest → Halts M l rest
  pub whole : M l' → M l

-- texts of x, each after a blank, a bracket and then the text z
module _ {X : Type 0} {text : X → List ℕ} {ok : X → Type 0} {tight : X → List ℕ → Type 0} (told : Told text ok tight) (some : (x : X) × ok x) (z : List ℕ) where
  -- one turn: a blank and a text, or the bracket
  Turn : List ℕ → Type 0
  Turn = Either (Byte 32 (Piece text ok (λ _. Many text ok (41 ∷ z)))) (Byte 41 (Is z))

  -- a turn is a list
  turn_in : (t : List ℕ) → Turn t → Many text ok (41 ∷ z) t
  unfolding Turn
  turn_in t (inl (a, (x, u, h, (xs, hs, e₃), e₂), e₁)) = (x ∷ xs, (h, hs), e₁ ∙ ap (λ y. 32 ∷ y) (e₂ ∙ ap (λ y. text x ++ y) e₃ ∙ sym (append_assoc (text x) (flat_map (λ y. 32 ∷ text y) xs) (41 ∷ z))))
  turn_in t (inr (u, f, e)) = ([], tt, e ∙ ap (λ y. 41 ∷ y) f)

  -- a list is a turn
  turn_out : (t : List ℕ) → Many text ok (41 ∷ z) t → Turn t
  unfolding Turn
  turn_out t ([], h, e) = inr (z, refl, e)
  turn_out t (x ∷ xs, (h, hs), e) = inl (_, (x, _, h, (xs, hs, refl), refl), e ∙ ap (λ y. 32 ∷ y) (append_assoc (text x) (flat_map (λ y. 32 ∷ text y) xs) (41 ∷ z)))

  -- a reader of turns is one of lists
  as_many : {l rest : List ℕ} → Halts Turn l rest → Halts (Many text ok (41 ∷ z)) l rest
  as_many {l} {rest} h = halt_wider Turn (Many text ok (41 ∷ z)) l rest turn_in (λ t like m. turn_out t m) h

  -- a list may stand after a number
  pub many_follows : Follows (Many text ok (41 ∷ z))
  many_follows = record { live = (41 ∷ z, ([], tt, refl)); un = un }
    where
      un : (t : List ℕ) → Many text ok (41 ∷ z) t → Open t
      un t ([], h, e) d = omega (arith, ap ahead e)
      un t (x ∷ xs, h, e) d = omega (arith, ap ahead e)

  module _ (l₀ l : List ℕ) (g : Goes (Many text ok (41 ∷ z)) l₀ l) where
    -- a blank and a text
    pub goes_more : (x : X) (l₁ l₂ : List ℕ) → l ≡ 32 ∷ l₁ → ok x × (l₁ ≡ text x ++ l₂) × tight x l₂ → Goes (Many text ok (41 ∷ z)) l₀ l₂
    unfolding Turn
    goes_more x l₁ l₂ e h = record {
      halts = λ r s. g.halts r (as_many (either_left 32 41 _ (Is z) l l₁ r (λ q. omega arith) e (piece_some told (λ _. many_follows) x h s)));
      whole = λ m. g.whole (turn_in _ (inl (l₁, (x, l₂, h.0, m, h.1), e)));
    }

    -- a blank and no text
    pub at_item : (l₁ rest : List ℕ) → l ≡ 32 ∷ l₁ → Halts (Piece text ok (λ _. Open)) l₁ rest → Halts (Many text ok (41 ∷ z)) l₀ rest
    unfolding Turn
    at_item l₁ rest e h = g.halts rest (as_many (either_left 32 41 _ (Is z) l l₁ rest (λ q. omega arith) e (piece_none told (λ _. many_follows) h)))

    -- neither a blank nor the bracket
    pub at_neither : (ahead l ≡ 32 → ⊥) → (ahead l ≡ 41 → ⊥) → Halts (Many text ok (41 ∷ z)) l₀ l
    unfolding Turn
    at_neither a b = g.halts l (as_many (either_none 32 41 _ (Is z) l (_, (some.0, _, some.1, many_follows.live.1, refl)) a b))

    -- the bracket, and then not z
    pub at_broken : (l₁ rest : List ℕ) → l ≡ 41 ∷ l₁ → Halts (Is z) l₁ rest → Halts (Many text ok (41 ∷ z)) l₀ rest
    unfolding Turn
    at_broken l₁ rest e h = g.halts rest (as_many (either_right 32 41 _ (Is z) l l₁ rest (λ q. omega arith) e h))

    -- the bracket, and then z
    pub at_whole : (l₁ : List ℕ) → l ≡ 41 ∷ l₁ → l₁ ≡ z → Many text ok (41 ∷ z) l₀
    unfolding Turn
    at_whole l₁ e h = g.whole (turn_in _ (inr (l₁, h, e)))

    -- the bracket, and what is read after it
    pub at_bracket : {A : Type 0} (o : Option A) (l₁ rest : List ℕ) → l ≡ 41 ∷ l₁ → Ends (Is z) l₁ o rest → Ends (Many text ok (41 ∷ z)) l₀ o rest
    at_bracket None l₁ rest e h = at_broken l₁ rest e h
    at_bracket (Some a) l₁ rest e h = at_whole l₁ e h

    -- the text gets shorter at each item
    pub shorter : (x : X) (l₁ l₂ : List ℕ) → l ≡ 32 ∷ l₁ → l₁ ≡ text x ++ l₂ → length l₂ < length l
    shorter x l₁ l₂ e f = omega (arith, ap length e, ap length f, length-append (text x) l₂)

-- the whole list
abbrev First : List ℕ → Type 0
First = Either (Is (codes "))")) (Piece decimal Short (λ _. Others))

-- the two brackets, or a number and others, are a list
listed_in : (t : List ℕ) → First t → Listed t
listed_in t (inl e) = ([], tt, e)
listed_in t (inr (n, u, h, (ns, hs, e₂), e₁)) = (n ∷ ns, (h, hs), e₁ ∙ ap (λ y. decimal n ++ y) e₂ ∙ sym (append_assoc (decimal n) (numbers ns) (codes "))")))

-- a list is one of these
listed_out : (t : List ℕ) → Listed t → First t
listed_out t ([], h, e) = inl e
listed_out t (n ∷ ns, (h, hs), e) = inr (n, _, h, (ns, hs, refl), e ∙ append_assoc (decimal n) (numbers ns) (codes "))"))

-- a reader of these is one of lists
as_listed : {l rest : List ℕ} → Halts First l rest → Halts Listed l rest
as_listed {l} {rest} h = halt_wider First Listed l rest listed_in (λ t like m. listed_out t m) h

-- the other numbers may stand after a number
others_follows : Follows Others
others_follows = many_follows number_told some_number (codes ")")

-- an empty list
pub list_empty : {A : Type 0} (o : Option A) (l l₁ rest : List ℕ) → l ≡ 41 ∷ l₁ → Ends (Is (codes ")")) l₁ o rest → Ends Listed l o rest
list_empty None l l₁ rest e h = as_listed (halt_wider (Is (codes "))")) First l rest (λ t m. inl m) only (is_some e h))
  where
    only : (t : List ℕ) → Like l t → First t → Is (codes "))") t
    only t like (inl m) = m
    only t like (inr m) = absurd (omega (arith, like, ap ahead e, ap ahead m.4, leading m.0 m.1 m.2))
list_empty (Some a) l l₁ rest e h = ([], tt, e ∙ ap (λ y. 41 ∷ y) h)

-- a list that does not begin with the bracket begins with a number
only_number : (l t : List ℕ) → (ahead l ≡ 41 → ⊥) → Like l t → First t → Piece decimal Short (λ _. Others) t
only_number l t bar like (inl m) = absurd (bar (sym like ∙ ap ahead m))
only_number l t bar like (inr m) = m

-- so a reader of a number and others is one of such lists
as_numbered : (l rest : List ℕ) → (ahead l ≡ 41 → ⊥) → Halts (Piece decimal Short (λ _. Others)) l rest → Halts Listed l rest
as_numbered l rest bar h = as_listed (halt_wider (Piece decimal Short (λ _. Others)) First l rest (λ t m. inr m) (λ t like m. only_number l t bar like m) h)

-- no number
pub list_none : (l rest : List ℕ) → (ahead l ≡ 41 → ⊥) → Halts (Piece decimal Short (λ _. Open)) l rest → Halts Listed l rest
list_none l rest bar h = as_numbered l rest bar (piece_none number_told (λ _. others_follows) h)

-- a number, and others
pub list_some : {A : Type 0} (o : Option A) (n : ℕ) (l l₁ rest : List ℕ) → (ahead l ≡ 41 → ⊥) → Short n × (l ≡ decimal n ++ l₁) × Tight n l₁ → Ends Others l₁ o rest → Ends Listed l o rest
list_some None n l l₁ rest bar h s = as_numbered l rest bar (piece_some number_told (λ _. others_follows) n h s)
list_some (Some a) n l l₁ rest bar h m = listed_in l (inr (n, l₁, h.0, m, h.1))

-- there is a list
pub listed_live : Live Listed
listed_live = (codes "))", ([], tt, refl))

-- there is a list in brackets
pub bracket_live : Live (Byte 40 Listed)
bracket_live = (byte_follows 40 Listed (λ d. omega arith) listed_live).live

-- a list in brackets, after a blank, may stand after a number
pub routes_follows : Follows Routes
routes_follows = byte_follows 32 (Byte 40 Listed) (λ d. omega arith) bracket_live
