-- The amounts of partial plans, and the joining over all that stand. Assumes nothing.
use Rattle.std.specs.Prelude.{◌≡◌, ℕ, ◌+◌, ◌-◌, ◌*◌, ◌≤◌, Bool, false, List, [], ◌∷◌, map, length, ℤ, pos, fold, slice_index_or, unsigned_abs}
use Rattle.terms.specs.declared.arc.Arc.{Arc}
use Rattle.plans.specs.Plans.{fronts, backs, Node}
use Rattle.plans.specs.Cases.{Case, stands, those}
use Rattle.tallies.specs.Laws.{steep}
use Rattle.tallies.specs.declared.tally.Tally.{Ghosts}

-- the arcs that a list of marks says stand, and the prices of a list
abbrev pub marked : List Bool → Case
marked on a = slice_index_or on a false

abbrev pub price_at : List ℤ → ℕ → ℤ
price_at prices a = slice_index_or prices a (pos 0)

module _ {X A : Type 0} (t : Ghosts X A) (price : ℕ → ℤ) where
  -- the amount of a partial plan, extended arc by arc from its start on, and from its end on
  abbrev pub along : List ℕ → A
  along p = fold (λ x a. t.extends x (price a)) t.start p

  abbrev pub along_back : List ℕ → A
  along_back [] = t.start
  along_back (a ∷ p) = t.extends (along_back p) (price a)

-- the joining of a list of amounts
abbrev pub joining : {X A : Type 0} → Ghosts X A → List A → A
joining t [] = t.nothing
joining t (a ∷ xs) = t.joins a (joining t xs)

-- the joining over all standing partial plans from the root to node v of level k
abbrev pub forward_amount : {X A : Type 0} → Ghosts X A → List Arc → Case → (ℕ → ℤ) → ℕ → ℕ → A
forward_amount t arcs s price k v = joining t (map (along t price) (those (stands s) (fronts arcs k v)))

-- the joining over all standing partial plans from node v of level k to the end
abbrev pub backward_amount : {X A : Type 0} → Ghosts X A → ℕ → List Arc → Case → (ℕ → ℤ) → ℕ → ℕ → A
backward_amount t n arcs s price k v = joining t (map (along_back t price) (those (stands s) (backs n arcs k v)))

-- the entry of a table that holds the amount at node v of level k
abbrev pub entry : ℕ → ℕ → ℕ
entry k v = 32 * (k - 1) + v

-- the table holds at each node of the chart the joining over all standing partial plans from the root to it
abbrev pub Forward : {X A : Type 0} → Ghosts X A → ℕ → List Arc → Case → (ℕ → ℤ) → List A → Type 0
Forward t n arcs s price table =
    (k v : ℕ) → Node n k v → slice_index_or table (entry k v) t.nothing ≡ forward_amount t arcs s price k v

-- and here over those from it to the end
abbrev pub Backward : {X A : Type 0} → Ghosts X A → ℕ → List Arc → Case → (ℕ → ℤ) → List A → Type 0
Backward t n arcs s price table =
    (k v : ℕ) → Node n k v → slice_index_or table (entry k v) t.nothing ≡ backward_amount t n arcs s price k v

-- marks and prices for each arc, no price too large
pub record Sweepable (arcs : List Arc) (on : List Bool) (prices : List ℤ) : Type 0 where
  pub marks : length arcs ≤ length on
  pub priced : length arcs ≤ length prices
  pub small : (a : ℕ) → unsigned_abs (price_at prices a) ≤ steep
