-- The plan that a trace follows along the amounts of a backward sweep. Assumes nothing.
use Rattle.std.specs.Prelude.{◌≡◌, ℕ, suc, ◌<◌, Bool, true, false, ◌&&◌, List, [], ◌∷◌, ◌++◌, length, take, drop, ℤ, Some, None, Option, ◌≢◌}
use Rattle.terms.specs.declared.arc.Arc.{Arc}
use Rattle.plans.specs.Arcs.{arc_at}
use Rattle.plans.specs.Plans.{next}
use Rattle.plans.specs.Cases.{Case}
use Rattle.plans.specs.Words.{Stands}
use Rattle.ways.specs.Amounts.{along_back, backward_amount}
use Rattle.tallies.specs.declared.tally.Tally.{Ghosts}

module _ {X A : Type 0} (t : Ghosts X A) (n : ℕ) (arcs : List Arc) (s : Case) (price : ℕ → ℤ) where
  -- arc i stands and starts at node v of level k, and the amount after it, extended by its price, is the node's amount
  abbrev pub Attains : ℕ → ℕ → ℕ → Type 0
  Attains k v i =
      ((s i && next arcs k v i) ≡ true)
      × (t.extends (backward_amount t n arcs s price (suc k) (arc_at arcs i).end) (price i) ≡ backward_amount t n arcs s price k v)

  -- the smallest such arc number
  abbrev pub Smallest : ℕ → ℕ → ℕ → Type 0
  Smallest k v i = Attains k v i × ((j : ℕ) → j < i → Attains k v j → ⊥)

  -- that arc, where there is one
  abbrev pub Picked : ℕ → ℕ → Option ℕ → Type 0
  Picked k v None = (j : ℕ) → j < length arcs → Attains k v j → ⊥
  Picked k v (Some i) = (i < length arcs) × Smallest k v i

  -- from node v of level k on, at each node the smallest arc that attains its amount
  abbrev pub Traced : ℕ → ℕ → List ℕ → Type 0
  Traced k v [] = k ≡ suc n
  Traced k v (i ∷ p) = Smallest k v i × Traced (suc k) (arc_at arcs i).end p

  -- what follows the rule from node v of level k on completes what is written
  abbrev pub Completes : List ℕ → ℕ → ℕ → Type 0
  Completes front k v = (p : List ℕ) → Traced k v p → Traced 1 0 (front ++ p)

  -- a standing plan whose amount is the joining over all
  pub record Attaining (p : List ℕ) : Type 0 where
    pub stands : Stands n arcs s p
    pub amount : along_back t price p ≡ backward_amount t n arcs s price 1 0

  -- a trace answers whether the joining over all standing plans is anything but "no plan"; then it writes into the
  -- first n places the plan that takes at each node the smallest arc that attains the amount, which is a standing plan
  -- that attains the joining over all; and else nothing
  abbrev pub Outcome : List ℕ → List ℕ → Bool → Type 0
  Outcome old new false = (backward_amount t n arcs s price 1 0 ≡ t.nothing) × (new ≡ old)
  Outcome old new true =
      (backward_amount t n arcs s price 1 0 ≢ t.nothing)
      × Traced 1 0 (take n new) × Attaining (take n new) × (drop n new ≡ drop n old)
