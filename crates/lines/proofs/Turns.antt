-- Loops over the items of a form. Assumes nothing.
use Rattle.std.proofs.Common.{◌≡◌, ℕ, List, [], ◌∷◌, Some, None, sym, ap, ◌∙◌, subst}
use Rattle.lines.specs.declared.form.Items.{Items}
use Rattle.lines.specs.Cursors.{Holds, Gives}

-- the cursor c holds what is left of the items, and what is found from there on is what was to be found
pub record Goes {X R : Type 0} (ok : X → Type 0) (laid : List X → List ℕ → Type 0) (c : Items X) (found : R) (finish : List X → R) : Type 0 where
  pub rest : List X
  pub held : Holds ok laid rest c
  pub same : finish rest ≡ found

module _ {X R : Type 0} {ok : X → Type 0} {laid : List X → List ℕ → Type 0} {found : R} where
  -- the first turn
  pub begins : {c d : Items X} {finish : List X → R} (xs : List X) → d ≡ c → Holds ok laid xs c → finish xs ≡ found → Goes ok laid d found finish
  begins xs same h e = record { rest = xs; held = subst (Holds ok laid xs) (sym same) h; same = e }

  -- one turn more: what is found from the item x on is found from where x was taken in
  pub goes_on : {c d : Items X} {x : X} {finish after : List X → R} → Goes ok laid c found finish → Gives ok laid c (Some x) d → ((ys : List X) → finish (x ∷ ys) ≡ after ys) → Goes ok laid d found after
  goes_on {finish = finish} g next step = let n = next.at g.rest g.held in record { rest = n.others; held = n.held; same = sym (step n.others) ∙ ap finish (sym n.order) ∙ g.same }

  -- no item is left
  pub ends_here : {c d : Items X} {finish : List X → R} → Goes ok laid c found finish → Gives ok laid c None d → finish [] ≡ found
  ends_here {finish = finish} g next = ap finish (sym (next.at g.rest g.held).0) ∙ g.same
