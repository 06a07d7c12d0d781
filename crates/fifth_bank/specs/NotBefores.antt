-- The rule that a route is not tested before a place, and what a chart is judged by under it. Assumes nothing.
use Rattle.std.specs.Prelude.{ℕ, zero, suc, Bool, true, false, cond, ◌&&◌, List, [], ◌∷◌, ℤ, pos, ◌==◌, nat_lt}
use Rattle.std.proofs.Common.{arith}
use Rattle.std.proofs.lemmas.Int.{ints}
use Rattle.terms.specs.declared.rule.Sense.TheVariants.{AtMost}
use Rattle.charts.specs.declared.chart.Chart.{Chart}
use Rattle.charts.specs.Drafts.{places_of, arcs_of}
use Rattle.rules.specs.Rules.{Rule, InRange, Within}
use Rattle.rules.specs.Lawful.{Problem}

-- 1 for the route at the places before the first that is allowed, and 0 else
abbrev pub not_before_weight : ℕ → ℕ → ℕ → ℕ → ℤ
not_before_weight barred first place route = cond (route == barred && nat_lt place first) (pos 1) (pos 0)

-- at most 0: the route is not tested before that place
abbrev pub not_before_rules : ℕ → ℕ → List Rule
not_before_rules barred first = record { sense = AtMost; limit = pos 0; weight = not_before_weight barred first } ∷ []

-- a weight of 1 or 0
one_or_none : (b : Bool) → Within 10000 (cond b (pos 1) (pos 0))
one_or_none true = (omega (arith, ints), omega (arith, ints))
one_or_none false = (omega (arith, ints), omega (arith, ints))

-- the rule is in range
pub not_before_range : (barred first : ℕ) → InRange (not_before_rules barred first)
not_before_range barred first zero h = record {
  limit = (omega (arith, ints), omega (arith, ints));
  weight = λ place route _. one_or_none (route == barred && nat_lt place first);
}
not_before_range barred first (suc r) h = absurd (omega arith)

-- a chart under that rule
abbrev pub judged_under : Chart → ℕ → ℕ → Problem
judged_under chart barred first = record { places = places_of chart; arcs = arcs_of chart; rules = not_before_rules barred first }
