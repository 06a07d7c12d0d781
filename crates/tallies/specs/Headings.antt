-- What each direction of a sweep owes. Assumes nothing.
use Rattle.std.specs.Prelude.{◌≡◌, ℕ, ◌<◌, ◌≤◌}
use Rattle.terms.specs.declared.arc.Arc.{Arc}
use Rattle.plans.specs.Arcs.{OnNodes}

pub record HeadingLaws (near far : Arc → ℕ) (place row : ℕ → ℕ → ℕ) : Type 0 where
  pub near_node : (x : Arc) → OnNodes x → near x < 32
  pub far_node : (x : Arc) → OnNodes x → far x < 32
  -- rows are rows of the table, and two steps have two rows
  pub row_within : (n k : ℕ) → k ≤ n → row n k ≤ n
  pub row_apart : (n k l : ℕ) → k ≤ n → l ≤ n → row n k ≡ row n l → k ≡ l
