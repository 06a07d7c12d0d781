-- The sum of the prices of a plan's arcs, and the tallies of the two kinds as the definitions take them. Assumes nothing.
use Rattle.std.specs.Prelude.{ℕ, Bool, true, false, ◌||◌, List, [], ◌∷◌, ℤ, pos, ◌+ℤ◌, Some, None, Option}
use Rattle.tallies.specs.Kinds.{least_join, least_extend, least_size}
use Rattle.tallies.specs.declared.kinds.Least.{Least}
use Rattle.tallies.specs.declared.kinds.Reach.{Reach}
use Rattle.tallies.specs.declared.tally.Tally.{Ghosts}

-- the sum of the prices of a plan's arcs
abbrev pub price_sum : (ℕ → ℤ) → List ℕ → ℤ
price_sum price [] = pos 0
price_sum price (a ∷ p) = price a +ℤ price_sum price p

abbrev pub leasts : Ghosts Least (Option ℤ)
leasts = record { nothing = None; start = Some (pos 0); joins = least_join; extends = least_extend; size = least_size }

abbrev pub reaches : Ghosts Reach Bool
reaches = record { nothing = false; start = true; joins = λ a b. a || b; extends = λ a _. a; size = λ _. 0 }
