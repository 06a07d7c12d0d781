-- What an item of a line is, and how a cursor's text is laid out. Assumes nothing.
use Rattle.std.specs.Prelude.{◌≡◌, ℕ, ◌<◌, ◌⊎◌, List, [], ◌∷◌, ◌++◌, length, drop, codes}
use Rattle.std.specs.List.{flat_map}
use Rattle.lines.specs.Forms.{spaced, numbers}
use Rattle.lines.specs.Texts.{ahead, Open}

-- t begins as l does
abbrev pub Like : List ℕ → List ℕ → Type 0
Like l t = ahead t ≡ ahead l

-- a text begins with at most one x, where no digit follows the one and the other is tight
pub record Told {X : Type 0} (text : X → List ℕ) (ok : X → Type 0) (tight : X → List ℕ → Type 0) : Type 0 where
  pub once : (x y : X) (u t : List ℕ) → ok x → ok y → Open u → tight y t → text x ++ u ≡ text y ++ t → (x ≡ y) × (u ≡ t)
  pub like : (x : X) (l t : List ℕ) → Like l t → tight x l → tight x t
  pub loose : (x : X) (l : List ℕ) → Open l → tight x l

-- xs, each after a blank, and the bracket that ends the line
abbrev pub Row : {X : Type 0} → (X → List ℕ) → List X → List ℕ → Type 0
Row text xs t = t ≡ flat_map (λ x. codes " " ++ text x) xs ++ codes ")"

-- a bracket, the numbers with blanks between and a bracket, or the numbers, each after a blank, and a bracket; numbers in
-- brackets of their own have one more bracket after them
pub record RowOrList (ns : List ℕ) (t : List ℕ) : Type 0 where
  pub after : List ℕ
  pub ends : (after ≡ []) ⊎ (after ≡ codes ")")
  pub written : (t ≡ codes "(" ++ (spaced ns ++ (codes ")" ++ after))) ⊎ (t ≡ numbers ns ++ (codes ")" ++ after))

-- the laws of a kind of item: its text, the items that are short enough, what may follow one, and the texts of a list of them
pub record ItemLaws {X : Type 0} (text : X → List ℕ) (short : X → Type 0) (tight : X → List ℕ → Type 0) (laid : List X → List ℕ → Type 0) : Type 0 where
  pub told : Told text short tight
  -- there is an item
  pub some : (x : X) × short x
  -- an item has a text
  pub long : (x : X) → short x → 0 < length (text x)
  -- after one byte, the first item is next, then no digit and the text of the others
  pub first : (x : X) (xs : List X) (t : List ℕ) → short x → laid (x ∷ xs) t → (u : List ℕ) × (drop 1 t ≡ text x ++ u) × Open u × laid xs u
  -- after one byte of the text of no items, no item is next
  pub none : (x : X) (t u : List ℕ) → short x → laid [] t → drop 1 t ≡ text x ++ u → ⊥
