-- What a cursor yields. Assumes nothing.
use Rattle.std.proofs.Common.{◌≡◌, ℕ, List, [], ◌∷◌, ◌++◌, drop, Some, None, sym, refl, ap, ◌∙◌, subst, arith}
use Rattle.std.specs.Iterator.{AlwaysYields}
use Rattle.std.proofs.lemmas.Iterator.{YieldsList}
use Rattle.lines.specs.declared.form.Items.{Items}
use Rattle.lines.specs.Texts.{Halts, Open, Piece}
use Rattle.lines.specs.Items.{ItemLaws}
use Rattle.lines.specs.Cursors.{Holds, Next, Gives}

module _ {X : Type 0} {text : X → List ℕ} {ok : X → Type 0} {tight : X → List ℕ → Type 0} {laid : List X → List ℕ → Type 0} (laws : ItemLaws text ok tight laid) where
  -- no item is read: there is none
  pub none_read : (c : Items X) (l rest : List ℕ) → l ≡ drop 1 c.text.now → Halts (Piece text ok (λ _. Open)) l rest → Gives ok laid c None c
  none_read c l rest e s = record { at = go }
    where
      go : (xs : List X) → Holds ok laid xs c → Next (Holds ok laid) xs None c
      go [] h = (refl, h)
      go (x ∷ xs) h = let f = laws.first x xs c.text.now h.short.0 h.written in absurd (s.stops.whole (x, f.0, h.short.0, f.2, e ∙ f.1))

  -- an item is read: it is the first
  pub one_read : (c d : Items X) (l : List ℕ) (y : X) → l ≡ drop 1 c.text.now → ok y × (l ≡ text y ++ d.text.now) × tight y d.text.now → Gives ok laid c (Some y) d
  one_read c d l y e (good, f, close) = record { at = go }
    where
      go : (xs : List X) → Holds ok laid xs c → Next (Holds ok laid) xs (Some y) d
      go [] h = absurd (laws.none y c.text.now d.text.now good h.written (sym e ∙ f))
      go (x ∷ xs) h =
          let p = laws.first x xs c.text.now h.short.0 h.written in
          let o = laws.told.once x y p.0 d.text.now h.short.0 good p.2 close (sym p.1 ∙ sym e ∙ f) in
          record { others = xs; order = ap (λ q. q ∷ xs) o.0; held = record { few = omega (arith, h.few); short = h.short.1; written = subst (laid xs) o.1 p.3 } }

-- a loop over a cursor that holds xs is given xs and nothing else
pub held_yields : {X : Type 0} {ok : X → Type 0} {laid : List X → List ℕ → Type 0} {c : Items X} (xs : List X) → Holds ok laid xs c → YieldsList (Gives ok laid) (λ x. x) c xs
held_yields {X} {ok} {laid} {c} xs h = record { runs = go xs c h }
  where
    nothing : (x : X) (xs : List X) → [] ≡ x ∷ xs → ⊥
    nothing x xs e = cc

    go : (xs : List X) (c : Items X) → Holds ok laid xs c → AlwaysYields (Gives ok laid) (λ x. x) c xs
    go [] c h = λ y d s. let f = s.at [] h in nothing y f.others f.order
    go (x ∷ xs) c h = (
      λ d s. nothing x xs (sym (s.at (x ∷ xs) h).0),
      λ y d s.
          let f = s.at (x ∷ xs) h in
          let same : y ≡ x = cc (f.order) in
          let others : f.others ≡ xs = cc (f.order) in
          (same, go xs d (subst (λ ys. Holds ok laid ys d) others f.held)),
    )
