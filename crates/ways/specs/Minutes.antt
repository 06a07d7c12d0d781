-- The call that answers the least minutes of a chart. Assumes nothing.
use Rattle.std.specs.Prelude.{ℕ, List, length, pos, Some, None, Ok, Option, nat_lt}
use Rattle.terms.specs.declared.arc.Arc.{Arc}
use Rattle.terms.specs.declared.refusal.Refusal.TheVariants.{ShortBuffer}
use Rattle.terms.specs.Refusals.{when, Outcome, decided}
use Rattle.plans.specs.Plans.{cost, plans}
use Rattle.plans.specs.Firsts.{cheapest, written}

-- the first of the plans with the least cost
abbrev pub cheapest_plan : ℕ → List Arc → Option (List ℕ)
cheapest_plan n arcs = cheapest (λ p. pos (cost arcs p)) (plans n arcs)

-- its cost, where there is one
abbrev pub cost_in : List Arc → Option (List ℕ) → Option ℕ
cost_in arcs None = None
cost_in arcs (Some p) = Some (cost arcs p)

-- a buffer shorter than n is refused; else the answer is the least cost, if there is a plan, and the first plan with
-- that cost is written into the buffer's first n places
abbrev pub on_minutes : ℕ → List Arc → List ℕ → Outcome (List ℕ) (Option ℕ)
on_minutes n arcs room = decided room (when (nat_lt (length room) n) ShortBuffer) (record { answer = Ok (cost_in arcs (cheapest_plan n arcs)); left = written (cheapest_plan n arcs) room })
