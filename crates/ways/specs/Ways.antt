-- The ways that a sweep of either direction has gone after some steps, the newest arc first. Assumes nothing.
use Rattle.std.specs.Prelude.{◌≡◌, ℕ, zero, suc, ◌+◌, ◌*◌, ◌<◌, ◌≤◌, Bool, cond, ◌&&◌, List, [], ◌∷◌, ◌++◌, map, length, ℤ, ◌==◌, slice_index_or, slice_set}
use Rattle.terms.specs.declared.arc.Arc.{Arc}
use Rattle.plans.specs.Arcs.{arc_at}
use Rattle.plans.specs.Cases.{Case}
use Rattle.ways.specs.Amounts.{along_back, joining}
use Rattle.tallies.specs.declared.tally.Tally.{Ghosts}
use Rattle.tallies.specs.declared.heading.Heading.{Ghosts as Directed}

module _ {Y : Type 0} (h : Directed Y) (n : ℕ) (arcs : List Arc) (s : Case) where
  -- arc i stands, and step k takes it
  abbrev pub takes : ℕ → ℕ → Bool
  takes k i = s i && (arc_at arcs i).place == h.place n k

  -- the ways to node v by one of the arcs below i that step k takes, where `before u` are those to node u
  abbrev pub gathered : (ℕ → List (List ℕ)) → ℕ → ℕ → ℕ → List (List ℕ)
  gathered before k v zero = []
  gathered before k v (suc i) =
      gathered before k v i ++ cond (takes k i && h.far (arc_at arcs i) == v) (map (λ p. i ∷ p) (before (h.near (arc_at arcs i)))) []

  -- the ways of k steps to node v
  abbrev pub ways : ℕ → ℕ → List (List ℕ)
  ways zero v = cond (v == 0) ([] ∷ []) []
  ways (suc k) v = gathered (ways k) k v (length arcs)

-- the joining over all ways of k steps to node v
abbrev pub way_amount : {X A Y : Type 0} → Ghosts X A → Directed Y → ℕ → List Arc → Case → (ℕ → ℤ) → ℕ → ℕ → A
way_amount t h n arcs s price k v = joining t (map (along_back t price) (ways h n arcs s k v))

-- the table after one arc: the amount at one entry, extended by the price, is joined to that at another
abbrev pub relaxed : {X A : Type 0} → Ghosts X A → List A → ℕ → ℕ → ℤ → List A
relaxed t out from to price =
    slice_set out to (t.joins (slice_index_or out to t.nothing) (t.extends (slice_index_or out from t.nothing) price))

-- the entry of node v after k steps
abbrev pub spot : {Y : Type 0} → Directed Y → ℕ → ℕ → ℕ → ℕ
spot h n k v = 32 * h.row n k + v

-- a table of which the rows of the steps up to k are filled, and the others hold no plan
pub record Filled {X A Y : Type 0} (t : Ghosts X A) (h : Directed Y) (n : ℕ) (arcs : List Arc) (s : Case) (price : ℕ → ℤ) (k : ℕ) (out : List A) : Type 0 where
  pub done : (l v : ℕ) → l ≤ k → l ≤ n → v < 32 → slice_index_or out (spot h n l v) t.nothing ≡ way_amount t h n arcs s price l v
  pub rest : (l v : ℕ) → k < l → l ≤ n → v < 32 → slice_index_or out (spot h n l v) t.nothing ≡ t.nothing
