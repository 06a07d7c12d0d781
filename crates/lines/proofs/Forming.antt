-- Whole lines. Assumes nothing.
use Rattle.std.proofs.Common.{◌≡◌, ℕ, List, ◌∷◌, ◌++◌, Some, None, codes, Option, sym, refl, ap, ◌∙◌, subst, MatchOption}
use Rattle.std.specs.Fmt.{signed_decimal}
use Rattle.lines.specs.declared.form.Form.{Form as Read}
use Rattle.lines.specs.declared.word.Word.{Word}
use Rattle.lines.specs.declared.word.Word.TheVariants as word
use Rattle.lines.specs.Forms.{Form, Casebook, Places, Arc, Once, Order, Budget, Seal, Claim, Price, Sample, Strike, Trim, Split, Close, Offer, Verdict, Formed, text, Proper, number}
use Rattle.lines.specs.Texts.{Halts, ahead, Byte, Piece}
use Rattle.lines.specs.Words.{spelt, headed, Any, Body}
use Rattle.lines.specs.Readings.{Says}
use Rattle.lines.proofs.Halting.{halt_wider, byte_none, byte_some, piece_none, piece_some}
use Rattle.lines.proofs.Wording.{AnyWord, word_told}
use Rattle.lines.proofs.Bodies.{body}

-- a bracket, a word and what follows it
pub after : (w v : Word) (l b : List ℕ) → w ≡ v → l ≡ b → headed v b ≡ headed w l
after w v l b same e = sym (ap (λ x. headed x l) same ∙ ap (headed v) e)

-- where what follows a known word breaks off
pub body_none : (w v : Word) (l rest : List ℕ) → w ≡ v → Halts (Body v) l rest → Halts (Body w) l rest
body_none w v l rest same h = subst (λ x. Halts (Body x) l rest) (sym same) h

-- the form of a word and of what follows it
pub record Made (w : Word) (t : List ℕ) : Type 0 where
  pub form : Form
  pub proper : Proper form
  pub whole : text form ≡ headed w t

-- what follows a word makes a form
unfoldable pub made : (w : Word) (t : List ℕ) → Body w t → Made w t
unfolding Body headed
made word.Casebook t e = record { form = Casebook; proper = tt; whole = after _ word.Casebook _ _ refl e }
made word.Places t (n, u, h, e₁, e) = record { form = Places n; proper = h; whole = after _ word.Places _ _ refl (e ∙ ap (λ x. number n ++ x) e₁) }
made word.Arc t (p, u, hp, (s, v, hs, (f, w, hf, (r, x, hr, (m, y, hm, e₅, e₄), e₃), e₂), e₁), e) = record {
  form = Arc (record { place = p; start = s; end = f; route = r; minutes = m });
  proper = (hp, hs, hf, hr, hm);
  whole = after _ word.Arc _ _ refl (e ∙ ap (λ q. number p ++ q) (e₁ ∙ ap (λ q. number s ++ q) (e₂ ∙ ap (λ q. number f ++ q) (e₃ ∙ ap (λ q. number r ++ q) (e₄ ∙ ap (λ q. number m ++ q) e₅)))));
}
made word.Once t (u, (v, (ns, h, e₂), e₁), e) = record { form = Once ns; proper = h; whole = after _ word.Once _ _ refl (e ∙ ap (λ x. 32 ∷ x) (e₁ ∙ ap (λ x. 40 ∷ x) e₂)) }
made word.Order t (a, u, ha, (b, v, hb, e₂, e₁), e) = record { form = Order a b; proper = (ha, hb); whole = after _ word.Order _ _ refl (e ∙ ap (λ x. number a ++ x) (e₁ ∙ ap (λ x. number b ++ x) e₂)) }
made word.Budget t (u, (z, v, h, (xs, hs, e₂), e₁), e) = record { form = Budget z xs; proper = (h, hs); whole = after _ word.Budget _ _ refl (e ∙ ap (λ x. 32 ∷ x) (e₁ ∙ ap (λ x. signed_decimal z ++ x) e₂)) }
made word.Seal t e = record { form = Seal; proper = tt; whole = after _ word.Seal _ _ refl e }
made word.Claim t (n, u, h, e₁, e) = record { form = Claim n; proper = h; whole = after _ word.Claim _ _ refl (e ∙ ap (λ x. number n ++ x) e₁) }
made word.Price t (xs, h, e) = record { form = Price xs; proper = h; whole = after _ word.Price _ _ refl e }
made word.Sample t e = record { form = Sample; proper = tt; whole = after _ word.Sample _ _ refl e }
made word.Strike t (xs, h, e) = record { form = Strike xs; proper = h; whole = after _ word.Strike _ _ refl e }
made word.Trim t e = record { form = Trim; proper = tt; whole = after _ word.Trim _ _ refl e }
made word.Split t (p, u, hp, (v, (w, (ns, h, e₃), e₂), e₁), e) = record { form = Split p ns; proper = (hp, h); whole = after _ word.Split _ _ refl (e ∙ ap (λ x. number p ++ x) (e₁ ∙ ap (λ x. 32 ∷ x) (e₂ ∙ ap (λ x. 40 ∷ x) e₃))) }
made word.Close t (xs, h, e) = record { form = Close xs; proper = h; whole = after _ word.Close _ _ refl e }
made word.Offer t (ns, h, e) = record { form = Offer ns; proper = h; whole = after _ word.Offer _ _ refl e }
made word.Verdict t e = record { form = Verdict; proper = tt; whole = after _ word.Verdict _ _ refl e }

-- the word of a form, and what follows it
pub record Parts (f : Form) : Type 0 where
  pub first : Word
  pub rest : List ℕ
  pub items : Body first rest
  pub whole : text f ≡ headed first rest

-- every form has parts
unfoldable pub parts : (f : Form) → Proper f → Parts f
unfolding Body headed
parts Casebook h = record { first = word.Casebook; rest = _; items = refl; whole = refl }
parts (Places n) h = record { first = word.Places; rest = _; items = (n, _, h, refl, refl); whole = refl }
parts (Arc a) (hp, hs, hf, hr, hm) = record { first = word.Arc; rest = _; items = (a.place, _, hp, (a.start, _, hs, (a.end, _, hf, (a.route, _, hr, (a.minutes, _, hm, refl, refl), refl), refl), refl), refl); whole = refl }
parts (Once ns) h = record { first = word.Once; rest = _; items = (_, (_, (ns, h, refl), refl), refl); whole = refl }
parts (Order a b) (ha, hb) = record { first = word.Order; rest = _; items = (a, _, ha, (b, _, hb, refl, refl), refl); whole = refl }
parts (Budget z xs) (h, hs) = record { first = word.Budget; rest = _; items = (_, (z, _, h, (xs, hs, refl), refl), refl); whole = refl }
parts Seal h = record { first = word.Seal; rest = _; items = refl; whole = refl }
parts (Claim n) h = record { first = word.Claim; rest = _; items = (n, _, h, refl, refl); whole = refl }
parts (Price xs) h = record { first = word.Price; rest = _; items = (xs, h, refl); whole = refl }
parts Sample h = record { first = word.Sample; rest = _; items = refl; whole = refl }
parts (Strike xs) h = record { first = word.Strike; rest = _; items = (xs, h, refl); whole = refl }
parts Trim h = record { first = word.Trim; rest = _; items = refl; whole = refl }
parts (Split p ns) (hp, h) = record { first = word.Split; rest = _; items = (p, _, hp, (_, (_, (ns, h, refl), refl), refl), refl); whole = refl }
parts (Close xs) h = record { first = word.Close; rest = _; items = (xs, h, refl); whole = refl }
parts (Offer ns) h = record { first = word.Offer; rest = _; items = (ns, h, refl); whole = refl }
parts Verdict h = record { first = word.Verdict; rest = _; items = refl; whole = refl }

-- a whole line
abbrev Line : List ℕ → Type 0
Line = Byte 40 (Piece spelt Any Body)

-- such a line is a form
line_in : (t : List ℕ) → Line t → Formed t
unfolding headed
line_in t (u, (w, v, _, m, e₁), e) = let f = made w v m in record { form = f.form; proper = f.proper; whole = f.whole ∙ sym (e ∙ ap (λ x. 40 ∷ x) e₁) }

-- a form is such a line
line_out : (t : List ℕ) → Formed t → Line t
unfolding headed
line_out t f = let p = parts f.form f.proper in (spelt p.first ++ p.rest, (p.first, p.rest, tt, p.items, refl), sym f.whole ∙ p.whole)

-- a reader of such lines is one of forms
as_formed : {l rest : List ℕ} → Halts Line l rest → Halts Formed l rest
as_formed {l} {rest} h = halt_wider Line Formed l rest line_in (λ t like m. line_out t m) h

-- no bracket
pub bracket_none : (l : List ℕ) → (ahead l ≡ 40 → ⊥) → Halts Formed l l
unfolding Body
bracket_none l bar = as_formed (byte_none (spelt word.Seal ++ codes ")", (word.Seal, codes ")", tt, refl, refl)) (refl, bar))

-- no word
pub word_none : (l l₁ rest : List ℕ) → l ≡ 40 ∷ l₁ → Halts AnyWord l₁ rest → Halts Formed l rest
word_none l l₁ rest e h = as_formed (byte_some e (piece_none word_told body h))

-- a word, and what is read after it
pub word_some : (o : Option Read) (w : Word) (l l₁ l₂ rest : List ℕ) → l ≡ 40 ∷ l₁ → Any w × (l₁ ≡ spelt w ++ l₂) × Unit {0} → MatchOption o (Halts (Body w) l₂ rest) (λ g. Says (headed w l₂) g) → MatchOption o (Halts Formed l rest) (λ g. Says l g)
unfolding headed
word_some None w l l₁ l₂ rest e h s = as_formed (byte_some e (piece_some word_told body w h s))
word_some (Some g) w l l₁ l₂ rest e h s = subst (λ x. Says x g) (sym (e ∙ ap (λ x. 40 ∷ x) h.1)) s
