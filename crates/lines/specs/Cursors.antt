-- What the cursors over a line's items still hold. Assumes nothing.
use Rattle.std.specs.Prelude.{◌≡◌, ℕ, ◌≤◌, List, [], ◌∷◌, length, ℤ, Some, None, Option}
use Rattle.std.specs.List.{AllByRecursion}
use Rattle.lines.specs.Forms.{Short, ShortPair, ShortTriple, pair, triple}
use Rattle.lines.specs.Items.{Row, RowOrList}
use Rattle.lines.specs.declared.form.Items.{Items}

-- the cursor c still holds the items xs, no more than a line has room for: each is short enough, and c's text has them in order
pub record Holds {X : Type 0} (ok : X → Type 0) (laid : List X → List ℕ → Type 0) (xs : List X) (c : Items X) : Type 0 where
  pub few : length xs ≤ 4096
  pub short : AllByRecursion ok xs
  pub written : laid xs c.text.now

-- the cursor c still holds the numbers ns: its text is a bracket, the numbers with blanks between and a bracket, or
-- the numbers, each after a blank, and a bracket; numbers in brackets of their own have one more bracket after them
abbrev pub HoldsNumbers : List ℕ → Items ℕ → Type 0
HoldsNumbers = Holds Short RowOrList

-- the cursor c still holds the pairs xs: its text is each after a blank, and the bracket that ends the line
abbrev pub HoldsPairs : List (ℕ × ℤ) → Items (ℕ × ℤ) → Type 0
HoldsPairs = Holds ShortPair (Row pair)

-- the cursor c still holds the triples xs: its text is each after a blank, and the bracket that ends the line
abbrev pub HoldsTriples : List (ℕ × ℕ × ℤ) → Items (ℕ × ℕ × ℤ) → Type 0
HoldsTriples = Holds ShortTriple (Row triple)

-- x is the first of the items xs, and the cursor c holds the others
pub record First {X C : Type 0} (Holds : List X → C → Type 0) (xs : List X) (x : X) (c : C) : Type 0 where
  pub others : List X
  pub order : xs ≡ x ∷ others
  pub held : Holds others c

-- what `next` answers from a cursor that holds the items xs, and what the cursor c then holds: None where xs is empty, and
-- still nothing; else the first of xs, and the others
abbrev pub Next : {X C : Type 0} → (List X → C → Type 0) → List X → Option X → C → Type 0
Next Holds xs None c = (xs ≡ []) × Holds xs c
Next Holds xs (Some x) c = First Holds xs x c

-- `next` answers o from the cursor c and leaves the cursor d: whatever items c holds, that is as it has to be
pub record Gives {X : Type 0} (ok : X → Type 0) (laid : List X → List ℕ → Type 0) (c : Items X) (o : Option X) (d : Items X) : Type 0 where
  pub at : (xs : List X) → Holds ok laid xs c → Next (Holds ok laid) xs o d
