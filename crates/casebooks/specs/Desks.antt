-- What a desk stands for: the problem that it judges under rules, and the model of how far it has come. Assumes nothing.
use Rattle.std.specs.Prelude.{ℕ, List, [], ◌∷◌, take, Some, None, Option}
use Rattle.terms.specs.declared.arc.Arc.{Arc}
use Rattle.plans.specs.Cases.{every}
use Rattle.charts.specs.Drafts.{places_of, arcs_of}
use Rattle.rules.specs.Rules.{Rule}
use Rattle.rules.specs.Lawful.{Problem}
use Rattle.judging.specs.Cases.{Model}
use Rattle.piles.specs.Views.{pile_of}
use Rattle.casebooks.specs.declared.desk.HeldPlan.{HeldPlan}
use Rattle.casebooks.specs.declared.desk.Desk.{Desk}

-- the chart's places and arcs, and the bank's rules
abbrev pub problem_of : Desk → List Rule → Problem
problem_of d rules = record { places = places_of d.chart; arcs = arcs_of d.chart; rules = rules }

-- the plan held, as its n arcs
abbrev pub held_of : ℕ → Option HeldPlan → Option (List ℕ)
held_of n None = None
held_of n (Some h) = Some (take n h.at)

-- the claim, the open cases and the plan held
abbrev pub model_of : Desk → Model
model_of d = record { claimed = d.claim.minutes; pile = pile_of (arcs_of d.chart) d.pile; held = held_of (places_of d.chart) d.held }

-- a model with a claim and one case with every arc
abbrev pub restarted : List Arc → Model → ℕ → Model
restarted arcs m k = record { claimed = k; pile = every arcs ∷ []; held = m.held }

-- a model with another plan held
abbrev pub holding : Model → List ℕ → Model
holding m p = record { claimed = m.claimed; pile = m.pile; held = Some p }

-- rules with no chart: what the rows on multipliers look at
abbrev pub rules_alone : List Rule → Problem
rules_alone rules = record { places = 0; arcs = []; rules = rules }
