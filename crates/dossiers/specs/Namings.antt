-- The multipliers that a line names. Assumes nothing.
use Rattle.std.specs.Prelude.{◌≡◌, ℕ, Bool, cond, List, [], ◌∷◌, length, replicate, ℤ, pos, Some, None, Ok, Err, Option, Result, ◌==◌, nat_le, nat_lt, slice_set}
use Rattle.terms.specs.declared.refusal.Refusal.{Refusal}
use Rattle.terms.specs.declared.refusal.Refusal.TheVariants.{TooManyRules, MultiplierCount}
use Rattle.terms.specs.Refusals.{when, earliest}
use Rattle.rules.specs.Lawful.{Problem}
use Rattle.std.specs.List.{list_any}
use Rattle.arrayvec.specs.ArrayVec.{ArrayVec}

-- multipliers, with those that pairs (rule, multiplier) name written into them one after another
abbrev pub naming : List ℤ → List (ℕ × ℤ) → List ℤ
naming zs [] = zs
naming zs (x ∷ xs) = naming (slice_set zs x.0 x.1) xs

-- one multiplier for each of n rules: 0 where a rule is not named, and of two for one rule the last
abbrev pub named : ℕ → List (ℕ × ℤ) → List ℤ
named n xs = naming (replicate n (pos 0)) xs

-- the multiplier that the last pair for a rule names, or z where there is none
abbrev pub last_named : List (ℕ × ℤ) → ℕ → ℤ → ℤ
last_named [] rule z = z
last_named (x ∷ xs) rule z = last_named xs rule (cond (x.0 == rule) x.1 z)

-- whether a pair names none of n rules
abbrev pub unknown : ℕ → ℕ × ℤ → Bool
unknown n x = nat_le n x.0

-- over 128 rules; a multiplier for no rule
abbrev pub naming_causes : ℕ → List (ℕ × ℤ) → Option Refusal
naming_causes n xs = earliest (when (nat_lt 128 n) TooManyRules ∷ when (list_any (unknown n) xs) MultiplierCount ∷ [])

abbrev pub naming_rows : Problem → List (ℕ × ℤ) → Option Refusal
naming_rows t xs = naming_causes (length t.rules) xs

-- what is read of the pairs xs for n rules: the multipliers that they name, or the refusal
abbrev pub ReadAs : ℕ → List (ℕ × ℤ) → Result (ArrayVec ℤ) Refusal → Type 0
ReadAs n xs (Ok m) = (naming_causes n xs ≡ None) × (m.items ≡ named n xs)
ReadAs n xs (Err e) = naming_causes n xs ≡ Some e
