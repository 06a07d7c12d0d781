-- The first plan of a list, the first with the least amount, and a plan written into a buffer. Assumes nothing.
use Rattle.std.specs.Prelude.{ℕ, Bool, true, false, cond, List, [], ◌∷◌, ◌++◌, length, drop, ℤ, Some, None, Option, int_lt}

-- the first of a list
abbrev pub foremost : List (List ℕ) → Option (List ℕ)
foremost [] = None
foremost (p ∷ ps) = Some p

-- q if its amount is less than that of p
abbrev pub lesser : (List ℕ → ℤ) → List ℕ → Option (List ℕ) → List ℕ
lesser f p None = p
lesser f p (Some q) = cond (int_lt (f q) (f p)) q p

-- the first plan of a list with the least amount
abbrev pub cheapest : (List ℕ → ℤ) → List (List ℕ) → Option (List ℕ)
cheapest f [] = None
cheapest f (p ∷ ps) = Some (lesser f p (cheapest f ps))

-- the amount of a plan, where there is one
abbrev pub amount_in : (List ℕ → ℤ) → Option (List ℕ) → Option ℤ
amount_in f None = None
amount_in f (Some p) = Some (f p)

-- a buffer into whose first places a plan is written, where there is one
abbrev pub written : Option (List ℕ) → List ℕ → List ℕ
written None room = room
written (Some p) room = p ++ drop (length p) room

-- whether there is a plan
abbrev pub is_there : Option (List ℕ) → Bool
is_there None = false
is_there (Some p) = true
