-- What a list of rules means for plans: a rule's total on a plan, and lawful plans. Assumes nothing.
use Rattle.std.specs.Prelude.{◌≡◌, ℕ, ◌<◌, Bool, true, ◌&&◌, List, [], ◌∷◌, length, ℤ, pos, ◌+ℤ◌, ◌-ℤ◌, int_le, slice_index_or}
use Rattle.terms.specs.declared.arc.Arc.{Arc}
use Rattle.terms.specs.declared.rule.Sense.{Sense}
use Rattle.terms.specs.declared.rule.Sense.TheVariants.{AtMost, Exactly}
use Rattle.plans.specs.Arcs.{arc_at}
use Rattle.plans.specs.Plans.{Plan, cost}
use Rattle.rules.specs.Rules.{Rule, no_rule}

-- what is judged: a chart's places and arcs, and a bank's rules
pub record Problem : Type 0 where
  pub places : ℕ
  pub arcs : List Arc
  pub rules : List Rule

-- the sum of a rule's weights on a plan
abbrev pub weighed : List Arc → Rule → List ℕ → ℤ
weighed arcs u [] = pos 0
weighed arcs u (a ∷ p) = u.weight (arc_at arcs a).place (arc_at arcs a).route +ℤ weighed arcs u p

-- a rule's total on a plan: that sum minus the limit
abbrev pub total : List Arc → Rule → List ℕ → ℤ
total arcs u p = weighed arcs u p -ℤ u.limit

-- whether a total meets a sense
abbrev pub meets : Sense → ℤ → Bool
meets AtMost t = int_le t (pos 0)
meets Exactly t = int_le t (pos 0) && int_le (pos 0) t

-- whether a rule holds on a plan
abbrev pub holds : List Arc → List ℕ → Rule → Bool
holds arcs p u = meets u.sense (total arcs u p)

-- a plan on which every rule holds
pub record Lawful (t : Problem) (p : List ℕ) : Type 0 where
  pub plan : Plan t.places t.arcs p
  pub allowed : (r : ℕ) → r < length t.rules → holds t.arcs p (slice_index_or t.rules r no_rule) ≡ true

-- a plan's cost: the sum of its minutes
abbrev pub cost_of : Problem → List ℕ → ℕ
cost_of t p = cost t.arcs p
