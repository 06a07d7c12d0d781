-- Sets of texts, and where a reader of such a set stops. Assumes nothing.
use Rattle.std.specs.Prelude.{◌≡◌, ℕ, suc, ◌+◌, ◌^◌, ◌<◌, ◌≤◌, ◌⊎◌, List, [], ◌∷◌, ◌++◌, length, take, drop, ℤ, pos, negsuc, Some, None, codes, decimal, Option, ◌≢◌, slice_index}
use Rattle.std.specs.List.{flat_map, AllByRecursion}
use Rattle.std.specs.Int.{IsInRange}
use Rattle.std.specs.Fmt.{signed_decimal}
use Rattle.lines.specs.Forms.{Short, ShortZ, ShortPair, ShortTriple, number, spaced, pair, triple}

-- the next byte, and 0 at the end
abbrev pub ahead : List ℕ → ℕ
ahead l = slice_index l 0

-- b is one of '0' to '9'
abbrev pub Digit : ℕ → Type 0
Digit b = IsInRange 48 57 b

-- the texts l and p have n bytes in common at the front, and no more
pub record Shared (l p : List ℕ) (n : ℕ) : Type 0 where
  pub in_text : n ≤ length l
  pub in_word : n ≤ length p
  pub same : take n l ≡ take n p
  pub apart : n < length l → n < length p → slice_index l n ≢ slice_index p n

-- k bytes of l can begin a text of M, and the byte after them, or l's end, cannot follow
pub record Stops (M : List ℕ → Type 0) (l : List ℕ) (k : ℕ) : Type 0 where
  pub within : k ≤ length l
  pub before : (t : List ℕ) × M (take k l ++ t)
  pub here : k < length l → (t : List ℕ) → M (take (k + 1) l ++ t) → ⊥
  pub whole : M l → ⊥

-- the reader of l stands before the first byte that cannot follow, and rest is left
pub record Halts (M : List ℕ → Type 0) (l rest : List ℕ) : Type 0 where
  pub passed : ℕ
  pub stops : Stops M l passed
  pub left : rest ≡ drop passed l

-- what may stand after a number: no digit
abbrev pub Open : List ℕ → Type 0
Open t = Digit (ahead t) → ⊥

-- the one text p
abbrev pub Is : List ℕ → List ℕ → Type 0
Is p t = t ≡ p

-- the byte b, and then a text of N
abbrev pub Byte : ℕ → (List ℕ → Type 0) → List ℕ → Type 0
Byte b N t = (u : List ℕ) × N u × (t ≡ b ∷ u)

-- a text of M or one of N
abbrev pub Either : (List ℕ → Type 0) → (List ℕ → Type 0) → List ℕ → Type 0
Either M N t = M t ⊎ N t

-- the text of some x that is ok, and then a text of N x
abbrev pub Piece : {X : Type 0} → (X → List ℕ) → (X → Type 0) → (X → List ℕ → Type 0) → List ℕ → Type 0
Piece {X} text ok N t = (x : X) × (u : List ℕ) × ok x × N x u × (t ≡ text x ++ u)

-- a number after a blank, and then a text of N
abbrev pub Item : (List ℕ → Type 0) → List ℕ → Type 0
Item N = Piece number Short (λ _. N)

-- texts of x, each after a blank, and then the text z
abbrev pub Many : {X : Type 0} → (X → List ℕ) → (X → Type 0) → List ℕ → List ℕ → Type 0
Many {X} text ok z t = (xs : List X) × AllByRecursion ok xs × (t ≡ flat_map (λ x. 32 ∷ text x) xs ++ z)

-- pairs to the end of the line
abbrev pub Pairs : List ℕ → Type 0
Pairs = Many pair ShortPair (codes ")")

-- triples to the end of the line
abbrev pub Triples : List ℕ → Type 0
Triples = Many triple ShortTriple (codes ")")

-- numbers, each after a blank, to the end of the line
abbrev pub Numbers : List ℕ → Type 0
Numbers = Many decimal Short (codes ")")

-- numbers, each after a blank, and the two brackets that end the line
abbrev pub Others : List ℕ → Type 0
Others = Many decimal Short (codes "))")

-- numbers with blanks between, and the two brackets that end the line
abbrev pub Listed : List ℕ → Type 0
Listed t = (ns : List ℕ) × AllByRecursion Short ns × (t ≡ spaced ns ++ codes "))")

-- numbers in brackets of their own, after a blank, to the end of the line
abbrev pub Routes : List ℕ → Type 0
Routes = Byte 32 (Byte 40 Listed)

-- a limit after a blank, and triples to the end of the line
abbrev pub Limited : List ℕ → Type 0
Limited = Byte 32 (Piece signed_decimal ShortZ (λ _. Triples))

-- where l goes on with a digit, no number begins with n and that digit
abbrev pub Tight : ℕ → List ℕ → Type 0
Tight n l = Digit (ahead l) → (n ≡ 0) ⊎ (10 ^ 9 ≤ n)

-- the same of a signed number
abbrev pub TightZ : ℤ → List ℕ → Type 0
TightZ (pos n) l = Tight n l
TightZ (negsuc n) l = Tight (suc n) l

-- anything may follow
abbrev pub Free : {X : Type 0} → X → List ℕ → Type 0
Free x l = Unit {0}

-- what a look at the next byte answers
abbrev pub Sees : List ℕ → Option ℕ → Type 0
Sees l None = l ≡ []
Sees l (Some b) = l ≡ b ∷ drop 1 l

-- what a reader that expects the byte b answers: it passes it, or stays where another is next
abbrev pub Passes : {X : Type 0} → ℕ → List ℕ → Option X → List ℕ → Type 0
Passes b l None rest = (rest ≡ l) × (ahead l ≢ b)
Passes b l (Some x) rest = l ≡ b ∷ rest

-- what a reader of numbers answers: the number that begins l, as long as can be, or it stays where no digit is next
abbrev pub Counts : List ℕ → Option ℕ → List ℕ → Type 0
Counts l None rest = (rest ≡ l) × Open l
Counts l (Some n) rest = Short n × (l ≡ decimal n ++ rest) × Tight n rest

-- what a reader of pieces answers: the x whose text begins l, or it stands where none goes on
abbrev pub Takes : {X : Type 0} → (X → List ℕ) → (X → Type 0) → (X → List ℕ → Type 0) → List ℕ → Option X → List ℕ → Type 0
Takes text ok tight l None rest = Halts (Piece text ok (λ _. Open)) l rest
Takes text ok tight l (Some x) rest = ok x × (l ≡ text x ++ rest) × tight x rest

-- what a reader of the end of a line answers that hands x on: x where l is of M, or it stands where no text of M goes on
abbrev pub Keeps : {X : Type 0} → (List ℕ → Type 0) → X → List ℕ → Option X → List ℕ → Type 0
Keeps M x l None rest = Halts M l rest
Keeps M x l (Some y) rest = (y ≡ x) × M l

-- what a reader of the end of a line answers: l is of M, or it stands where no text of M goes on
abbrev pub Ends : {X : Type 0} → (List ℕ → Type 0) → List ℕ → Option X → List ℕ → Type 0
Ends M l None rest = Halts M l rest
Ends M l (Some x) rest = M l
