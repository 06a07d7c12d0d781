-- What the definitions of the standing plans, the first of them and the first with the least amount mean, in terms of
-- plans. Assumes nothing.
use Rattle.std.specs.Prelude.{◌≡◌, ℕ, ◌+◌, true, ◌⊎◌, List, ℤ, ◌≤ℤ◌, Some, None}
use Rattle.terms.specs.declared.arc.Arc.{Arc}
use Rattle.plans.specs.Plans.{Plan, In, Before}
use Rattle.plans.specs.Cases.{Case, stands, standing, on, on_some, kept, gone, size}
use Rattle.plans.specs.Firsts.{foremost, cheapest}

abbrev pub Iff : Type 0 → Type 0 → Type 0
Iff P Q = (P → Q) × (Q → P)

-- a plan all of whose arcs are in a case
pub record Stands (n : ℕ) (arcs : List Arc) (s : Case) (p : List ℕ) : Type 0 where
  pub plan : Plan n arcs p
  pub all : stands s p ≡ true

-- no plan stands
abbrev pub NoneStands : ℕ → List Arc → Case → Type 0
NoneStands n arcs s = (p : List ℕ) → Stands n arcs s p → ⊥

-- p is the first of the plans that stand
pub record First (n : ℕ) (arcs : List Arc) (s : Case) (p : List ℕ) : Type 0 where
  pub stands : Stands n arcs s p
  pub first : (q : List ℕ) → Stands n arcs s q → (p ≡ q) ⊎ Before p q

-- p is the first of the plans that stand with the least amount
pub record FirstLeast (n : ℕ) (arcs : List Arc) (s : Case) (f : List ℕ → ℤ) (p : List ℕ) : Type 0 where
  pub stands : Stands n arcs s p
  pub least : (q : List ℕ) → Stands n arcs s q → f p ≤ℤ f q
  pub first : (q : List ℕ) → Stands n arcs s q → f q ≤ℤ f p → (p ≡ q) ⊎ Before p q

-- an arc on a plan of a list
abbrev pub OnOne : List (List ℕ) → ℕ → Type 0
OnOne ps a = (p : List ℕ) × (In p ps × (on a p ≡ true))

pub record Meant (n : ℕ) (arcs : List Arc) (s : Case) (f : List ℕ → ℤ) : Type 0 where
  pub listed : (p : List ℕ) → Iff (In p (standing n arcs s)) (Stands n arcs s p)
  pub sampled : (p : List ℕ) → Iff (foremost (standing n arcs s) ≡ Some p) (First n arcs s p)
  pub unsampled : Iff (foremost (standing n arcs s) ≡ None) (NoneStands n arcs s)
  pub priced : (p : List ℕ) → Iff (cheapest f (standing n arcs s) ≡ Some p) (FirstLeast n arcs s f p)
  pub unpriced : Iff (cheapest f (standing n arcs s) ≡ None) (NoneStands n arcs s)
  pub touched : (ps : List (List ℕ)) (a : ℕ) → Iff (on_some ps a ≡ true) (OnOne ps a)
  pub parted : (ps : List (List ℕ)) (m : ℕ) → size s m ≡ size (kept ps s) m + size (gone ps s) m

-- for every chart, every case and every amount that plans may have
abbrev pub StandingMeans : Type 0
StandingMeans = (n : ℕ) (arcs : List Arc) (s : Case) (f : List ℕ → ℤ) → Meant n arcs s f
