-- Which multipliers rules may have, and the lowest rule that has another. Assumes nothing.
use Rattle.std.specs.Prelude.{◌≡◌, ℕ, suc, Bool, true, cond, not, ◌&&◌, List, [], ◌∷◌, ℤ, pos, neg_ℤ, Some, None, Option, int_le}
use Rattle.terms.specs.declared.rule.Sense.{Sense}
use Rattle.terms.specs.declared.rule.Sense.TheVariants.{AtMost, Exactly}
use Rattle.rules.specs.Rules.{Rule}

-- whether a rule of this sense may have this multiplier, in thousandths of a minute: from -1,000,000,000 to
-- 1,000,000,000, and for an at most rule never below 0
abbrev pub fair : Sense → ℤ → Bool
fair AtMost z = int_le (pos 0) z && int_le z (pos 1_000_000_000)
fair Exactly z = int_le (neg_ℤ (pos 1_000_000_000)) z && int_le z (pos 1_000_000_000)

-- one fair multiplier for each rule
abbrev pub Fair : List Rule → List ℤ → Type 0
Fair [] [] = Unit {0}
Fair [] (z ∷ zs) = ⊥
Fair (u ∷ us) [] = ⊥
Fair (u ∷ us) (z ∷ zs) = (fair u.sense z ≡ true) × Fair us zs

-- for each rule, whether its multiplier is out of range or of the wrong sign
abbrev pub unfair : List Rule → List ℤ → List Bool
unfair [] zs = []
unfair (u ∷ us) [] = []
unfair (u ∷ us) (z ∷ zs) = not (fair u.sense z) ∷ unfair us zs

-- a position, where there is one, counted with one more in front
abbrev pub later : Option ℕ → Option ℕ
later None = None
later (Some r) = Some (suc r)

-- the position of the first that is true, counted from 0
abbrev pub lowest : List Bool → Option ℕ
lowest [] = None
lowest (b ∷ bs) = cond b (Some 0) (later (lowest bs))
