-- What a cursor holds where a form is read. Assumes nothing.
use Rattle.std.proofs.Common.{◌≡◌, ℕ, ◌+◌, ◌≤◌, List, [], ◌∷◌, ◌++◌, length, ℤ, Some, None, codes, decimal, Option, sym, refl, ap, ◌∙◌, subst, inl, inr, arith, length-append, w64, to_z, of_z, MatchOption}
use Rattle.std.specs.List.{flat_map}
use Rattle.std.specs.Fmt.{signed_decimal}
use Rattle.lines.specs.declared.form.Form.{Form as Read}
use Rattle.lines.specs.declared.form.Items.{Items}
use Rattle.lines.specs.declared.form.Form.TheVariants as read
use Rattle.lines.specs.declared.word.Word.{Word}
use Rattle.lines.specs.declared.word.Word.TheVariants as word
use Rattle.lines.specs.Forms.{Once, Split, Budget, Short, ShortZ, number, numbers, spaced, triple}
use Rattle.lines.specs.Texts.{Halts, Many, Triples, Numbers, Listed, Keeps}
use Rattle.lines.specs.Words.{headed, Body}
use Rattle.lines.specs.Items.{Row}
use Rattle.lines.specs.Cursors.{Holds, HoldsNumbers}
use Rattle.lines.specs.Readings.{Says}
use Rattle.lines.proofs.Pieces.{back}
use Rattle.lines.proofs.Forming.{after}

-- a text has at least as many bytes as items
many_length : {X : Type 0} (text : X → List ℕ) (xs : List X) → length xs ≤ length (flat_map (λ x. 32 ∷ text x) xs)
many_length text [] = omega arith
many_length text (x ∷ xs) = omega (arith, many_length text xs, length-append (text x) (flat_map (λ y. 32 ∷ text y) xs))

-- the same, where the first has no blank before it
spaced_length : (ns : List ℕ) → length ns ≤ length (spaced ns) + 1
spaced_length [] = omega arith
spaced_length (n ∷ ns) = omega (arith, many_length decimal ns, length-append (decimal n) (numbers ns))

-- a cursor over items, each after a blank, holds them
pub row_held : {X : Type 0} (text : X → List ℕ) {ok : X → Type 0} (c : Items X) → length c.text.now ≤ 4096 → Many text ok (codes ")") c.text.now → (xs : List X) × Holds ok (Row text) xs c
row_held {X} text {ok} c len (xs, h, e) = (xs, record { few = omega (arith, many_length text xs, length-append (flat_map (λ x. 32 ∷ text x) xs) (codes ")"), ap length e); short = h; written = e })

-- a cursor over the arcs of an offer holds them
pub arcs_held : (c : Items ℕ) → length c.text.now ≤ 4096 → Numbers c.text.now → (ns : List ℕ) × HoldsNumbers ns c × (c.text.now ≡ numbers ns ++ codes ")")
arcs_held c len (ns, h, e) = (ns, record { few = omega (arith, many_length decimal ns, length-append (numbers ns) (codes ")"), ap length e); short = h; written = record { after = []; ends = inl refl; written = inr e } }, e)

-- a cursor over routes in brackets holds them
pub routes_held : (c : Items ℕ) (t : List ℕ) → length c.text.now ≤ 4096 → Listed t → c.text.now ≡ 40 ∷ t → (ns : List ℕ) × HoldsNumbers ns c × (c.text.now ≡ codes "(" ++ (spaced ns ++ codes "))"))
routes_held c t len (ns, h, e) f =
    let whole : c.text.now ≡ 40 ∷ (spaced ns ++ codes "))") = f ∙ ap (λ x. 40 ∷ x) e in
    (ns, record { few = omega (arith, spaced_length ns, length-append (spaced ns) (codes "))"), ap length whole); short = h; written = record { after = codes ")"; ends = inr refl; written = inl whole } }, whole)

-- a form with routes, and one with a limit and entries
pub once_said : (w : Word) (l : List ℕ) (c : Items ℕ) → w ≡ word.Once → length l ≤ 4096 → (t : List ℕ) × Listed t × (c.text.now ≡ 40 ∷ t) × (l ≡ 32 ∷ c.text.now) → Says (headed w l) (read.Once c)
unfolding headed
once_said w l c same len (t, m, e, f) =
    let h = routes_held c t (omega (arith, ap length f)) m e in
    record { form = Once h.0; means = (h.0, h.1, refl); proper = h.1.short; whole = after w word.Once l _ same (f ∙ ap (λ x. 32 ∷ x) h.2) }

-- a form with a place and routes
pub split_said : (w : Word) (l : List ℕ) (n : ℕ) (c : Items ℕ) → w ≡ word.Split → length l ≤ 4096 → Short n × ((t : List ℕ) × Listed t × (c.text.now ≡ 40 ∷ t) × (l ≡ number n ++ (32 ∷ c.text.now))) → Says (headed w l) (read.Split n c)
unfolding headed
split_said w l n c same len (short, (t, m, e, f)) =
    let h = routes_held c t (omega (arith, ap length f, length-append (number n) (32 ∷ c.text.now))) m e in
    record { form = Split n h.0; means = (h.0, h.1, refl); proper = (short, h.1.short); whole = after w word.Split l _ same (f ∙ ap (λ x. number n ++ (32 ∷ x)) h.2) }

-- a form with a limit and entries
pub budget_said : (w : Word) (l : List ℕ) (z : ℤ) (c : Items (ℕ × ℕ × ℤ)) → w ≡ word.Budget → length l ≤ 4096 → ShortZ z × Triples c.text.now × (l ≡ 32 ∷ (signed_decimal z ++ c.text.now)) → Says (headed w l) (read.Budget (to_z w64 (of_z w64 z)) c)
unfolding headed
budget_said w l z c same len (short, m, f) =
    let h = row_held triple c (omega (arith, ap length f, length-append (signed_decimal z) c.text.now)) m in
    let P : ℤ → Type 0 = λ y. Says (headed w l) (read.Budget y c) in
    subst P (sym (back z short)) (record { form = Budget z h.0; means = (h.0, h.1, refl); proper = (short, h.1.short); whole = after w word.Budget l _ same (f ∙ ap (λ x. 32 ∷ (signed_decimal z ++ x)) h.1.written) })

-- a form that is handed on
pub kept_said : (o : Option Read) (g : Read) (M : List ℕ → Type 0) (w v : Word) (l rest : List ℕ) → w ≡ v → (Halts M l rest → Halts (Body v) l rest) → (M l → Says (headed w l) g) → Keeps M g l o rest → MatchOption o (Halts (Body w) l rest) (λ h. Says (headed w l) h)
kept_said None g M w v l rest same none some k = subst (λ x. Halts (Body x) l rest) (sym same) (none k)
kept_said (Some h) g M w v l rest same none some k = subst (Says (headed w l)) (sym k.0) (some k.1)
