-- What prices are asked under, and the price that a standing arc has. Assumes nothing.
use Rattle.std.specs.Prelude.{◌≡◌, ℕ, zero, suc, ◌<◌, ◌≤◌, Bool, true, false, cond, ◌&&◌, List, [], ◌∷◌, ◌++◌, length, ℤ, pos, negsuc, nat_lt, slice_index_or}
use mathlib.Core.Bool.{Bool-set}
use mathlib.Core.HLevel.{×_prop, Unit-prop, ⊥_prop}
use Rattle.std.specs.Coded.{le_prop}
use Rattle.terms.specs.declared.arc.Arc.{Arc}
use Rattle.plans.specs.Arcs.{arc_at}
use Rattle.plans.specs.Cases.{Case}
use Rattle.rules.specs.Rules.{Rule, on_grid}
use Rattle.rules.specs.Lawful.{Problem}
use Rattle.amounts.specs.Multipliers.{fair, Fair}
use Rattle.amounts.specs.Amounts.{arc_price}

-- a chart's places and arcs, and a bank's rules
abbrev pub problem : ℕ → List Arc → List Rule → Problem
problem n arcs us = record { places = n; arcs = arcs; rules = us }

-- at most 128 rules, and as many multipliers
pub record Matched (us : List Rule) (zs : List ℤ) : Type 0 where
  pub few : length us ≤ 128
  pub many : length zs ≡ length us

-- at most 128 rules, and a fair multiplier for each
pub record Priceable (us : List Rule) (zs : List ℤ) : Type 0 where
  pub few : length us ≤ 128
  pub fair : Fair us zs

-- multipliers are fair in one way at most
fair_prop : (us : List Rule) (zs : List ℤ) → IsProp (Fair us zs)
fair_prop [] [] = Unit-prop
fair_prop [] (z ∷ zs) = ⊥_prop
fair_prop (u ∷ us) [] = ⊥_prop
fair_prop (u ∷ us) (z ∷ zs) = ×_prop {A = fair u.sense z ≡ true} {B = Fair us zs} (Bool-set (fair u.sense z) true) (fair_prop us zs)

-- so a struct may keep the fact that they are priceable
pub priceable_prop : (us : List Rule) (zs : List ℤ) → IsProp (Priceable us zs)
priceable_prop us zs a b i = record { few = le_prop a.few b.few i; fair = fair_prop us zs a.fair b.fair i }

-- an arc whose place and route are on the grid, of at most 10,000 minutes
pub record Gridded (x : Arc) : Type 0 where
  pub placed : on_grid x.place x.route ≡ true
  pub short : x.minutes ≤ 10000

abbrev pub AllGridded : List Arc → Type 0
AllGridded arcs = (a : ℕ) → a < length arcs → Gridded (arc_at arcs a)

-- the price of an arc that is there and stands, and 0 for any other
abbrev pub standing_price : List Rule → List ℤ → List Arc → Case → ℕ → ℤ
standing_price us zs arcs s a = cond (nat_lt a (length arcs) && s a) (arc_price us zs (arc_at arcs a)) (pos 0)

-- whether a multiplier is not 0
abbrev pub counts : ℤ → Bool
counts (pos zero) = false
counts (pos (suc n)) = true
counts (negsuc n) = true

-- the rules below m whose multiplier is not 0, by number, in rising order
abbrev pub counting_below : List ℤ → ℕ → List ℕ
counting_below zs zero = []
counting_below zs (suc m) = cond (counts (slice_index_or zs m (pos 0))) (counting_below zs m ++ m ∷ []) (counting_below zs m)

-- all of them
abbrev pub counting : List ℤ → List ℕ
counting zs = counting_below zs (length zs)
