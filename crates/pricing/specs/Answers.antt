-- What is asked of a marked chart under rules and multipliers, and what the answers mean. Assumes nothing.
use Rattle.std.specs.Prelude.{ℕ, Bool, List, ℤ, Option, int_lt}
use Rattle.plans.specs.Cases.{those, standing}
use Rattle.plans.specs.Firsts.{cheapest, amount_in}
use Rattle.rules.specs.Rules.{Rule}
use Rattle.rules.specs.Lawful.{Problem}
use Rattle.charts.specs.declared.chart.Chart.{Chart}
use Rattle.charts.specs.Drafts.{places_of, arcs_of}
use Rattle.amounts.specs.Amounts.{amount}
use Rattle.ways.specs.Amounts.{marked}
use Rattle.through.specs.Pricings.{problem}

-- a chart's places and arcs, under rules
abbrev pub problem_on : Chart → List Rule → Problem
problem_on c us = problem (places_of c) (arcs_of c) us

-- the plans of a chart that stand under marks, in order
abbrev pub standing_on : Chart → List Bool → List (List ℕ)
standing_on c on = standing (places_of c) (arcs_of c) (marked on)

-- the first of them with the least priced amount, and that amount
abbrev pub priced_plan : Chart → List Rule → List ℤ → List Bool → Option (List ℕ)
priced_plan c us zs on = cheapest (amount (problem_on c us) zs) (standing_on c on)

abbrev pub least_amount : Chart → List Rule → List ℤ → List Bool → Option ℤ
least_amount c us zs on = amount_in (amount (problem_on c us) zs) (priced_plan c us zs on)

-- those of them that are priced below a mark
abbrev pub priced_below : Chart → List Rule → List ℤ → ℤ → List Bool → List (List ℕ)
priced_below c us zs mark on = those (λ p. int_lt (amount (problem_on c us) zs p) mark) (standing_on c on)
