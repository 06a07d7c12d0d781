-- The model of a casebook: the claim, the pile of open cases and the plan held. Assumes nothing.
use Rattle.std.specs.Prelude.{ℕ, ◌*◌, Bool, true, false, not, ◌&&◌, ◌||◌, List, [], ◌∷◌, ℤ, pos, None, Option, ◌==◌}
use Rattle.terms.specs.declared.arc.Arc.{Arc}
use Rattle.terms.specs.Routes.{in_set}
use Rattle.plans.specs.Arcs.{arc_at}
use Rattle.plans.specs.Cases.{Case, every, standing}
use Rattle.plans.specs.Firsts.{cheapest, amount_in}
use Rattle.rules.specs.Lawful.{Problem}
use Rattle.amounts.specs.Amounts.{amount}

-- a casebook: the claim, the open cases with the working case first, and the plan held, if any
pub record Model : Type 0 where
  pub claimed : ℕ
  pub pile : List Case
  pub held : Option (List ℕ)

-- a casebook as opened: claim 0, one case with every arc, no plan held
abbrev pub opened : Problem → Model
opened t = record { claimed = 0; pile = every t.arcs ∷ []; held = None }

-- the mark of a claim: a case closes if no plan that stands in it is priced below the mark
abbrev pub mark : ℕ → ℤ
mark claim = pos (1000 * claim)

-- the plans that stand in a case, in order
abbrev pub standing_in : Problem → Case → List (List ℕ)
standing_in t s = standing t.places t.arcs s

-- the first of them with the least amount, and that amount
abbrev pub first_plan : Problem → List ℤ → Case → Option (List ℕ)
first_plan t zs s = cheapest (amount t zs) (standing_in t s)

abbrev pub least : Problem → List ℤ → Case → Option ℤ
least t zs s = amount_in (amount t zs) (first_plan t zs s)

-- the arcs of a case that are of place k
abbrev pub at_place : List Arc → ℕ → Case → Case
at_place arcs k s a = s a && (arc_at arcs a).place == k

-- a case that keeps, at place k, only the routes inside a set, which is given by the number of its bits
abbrev pub inside : List Arc → ℕ → ℕ → Case → Case
inside arcs k routes s a = s a && (not ((arc_at arcs a).place == k) || in_set routes (arc_at arcs a).route)

-- and only the routes outside it
abbrev pub outside : List Arc → ℕ → ℕ → Case → Case
outside arcs k routes s a = s a && (not ((arc_at arcs a).place == k) || not (in_set routes (arc_at arcs a).route))

-- the working case, which has no arc where no case is open
abbrev pub top : List Case → Case
top [] a = false
top (s ∷ rest) a = s a

-- the cases under the working case
abbrev pub under : List Case → List Case
under [] = []
under (s ∷ rest) = rest

-- whether no case is open
abbrev pub none_open : List Case → Bool
none_open [] = true
none_open (s ∷ rest) = false

-- a casebook with another pile
abbrev pub piled : Model → List Case → Model
piled m cs = record { claimed = m.claimed; pile = cs; held = m.held }
