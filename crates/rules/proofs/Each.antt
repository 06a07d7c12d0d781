-- Rules made one by one from a list. Assumes nothing.
use Rattle.std.proofs.Common.{◌≡◌, ℕ, ◌<◌, min, List, map, length, get_or, arith}
use Rattle.std.proofs.lemmas.List.{get_or-map, length-map}
use Rattle.rules.specs.Rules.{Rule, no_rule, counted}

-- the count is that of the list
pub counted_map : {X : Type 0} (f : X → Rule) (xs : List X) → min (length xs) 129 ≡ counted (map f xs)
counted_map f xs = omega (arith, length-map xs f)

-- a rule below the count is made from an element of the list
pub within_map : {X : Type 0} (f : X → Rule) (xs : List X) (r : ℕ) → r < counted (map f xs) → r < length xs
within_map f xs r h = omega (arith, length-map xs f)

-- and from the one of its number
pub rule_at : {X : Type 0} (f : X → Rule) (xs : List X) (r : ℕ) (d : X) → r < counted (map f xs) → get_or (map f xs) r no_rule ≡ f (get_or xs r d)
rule_at f xs r d h = get_or-map f xs r d no_rule (within_map f xs r h)
