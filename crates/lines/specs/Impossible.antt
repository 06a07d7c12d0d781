-- The first byte with which a line can no longer begin any form. Assumes nothing.
use Rattle.std.specs.Prelude.{◌≡◌, ℕ, ◌+◌, ◌<◌, ◌≤◌, ◌⊎◌, List, ◌++◌, length, take}
use Rattle.lines.specs.Forms.{Form, text, Proper, Formed}

-- some form's text begins with the bytes p
abbrev pub Begins : List ℕ → Type 0
Begins p = (rest : List ℕ) × Formed (p ++ rest)

-- k is the least number such that no form's text begins with the first k bytes of the line l
pub record LeastImpossible (l : List ℕ) (k : ℕ) : Type 0 where
  pub within : k ≤ length l
  pub impossible : Begins (take k l) → ⊥
  pub least : (j : ℕ) → j < k → Begins (take j l)

-- the line l begins some form and is none, and k is its length plus 1
pub record TooShort (l : List ℕ) (k : ℕ) : Type 0 where
  pub begins : Begins l
  pub none : Formed l → ⊥
  pub past : k ≡ length l + 1

-- k is the place, from 1, of the first impossible byte of l: the least k such that no form's text begins with its first k
-- bytes, or its length plus 1 where it begins some form but is none
abbrev pub FirstImpossible : List ℕ → ℕ → Type 0
FirstImpossible l k = LeastImpossible l k ⊎ TooShort l k

-- a line is the text of at most one form, and has one answer: a form or one first impossible byte
pub record OneReading : Type 0 where
  pub form : (f g : Form) → Proper f → Proper g → text f ≡ text g → f ≡ g
  pub either : (l : List ℕ) (k : ℕ) → FirstImpossible l k → Formed l → ⊥
  pub byte : (l : List ℕ) (j k : ℕ) → FirstImpossible l j → FirstImpossible l k → j ≡ k
