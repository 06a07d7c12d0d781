-- Plans, partial plans, and the lists of all of them. Assumes nothing.
use Rattle.std.specs.Prelude.{◌≡◌, ℕ, zero, suc, ◌+◌, ◌-◌, ◌<◌, ◌≤◌, Bool, true, cond, ◌&&◌, ◌⊎◌, List, [], ◌∷◌, ◌++◌, map, length, ◌==◌, nat_lt}
use Rattle.terms.specs.declared.arc.Arc.{Arc}
use Rattle.plans.specs.Arcs.{arc_at, Sealed}

-- arc a is there, is of place k and starts at node v
abbrev pub next : List Arc → ℕ → ℕ → ℕ → Bool
next arcs k v a = nat_lt a (length arcs) && ((arc_at arcs a).place == k && (arc_at arcs a).start == v)

-- a partial plan from node v of level k: arcs of places k, k + 1 and so on, by their numbers, the first from
-- node v, each later one from where its predecessor ended
abbrev pub Path : List Arc → ℕ → ℕ → List ℕ → Type 0
Path arcs k v [] = Unit {0}
Path arcs k v (a ∷ p) = (next arcs k v a ≡ true) × Path arcs (suc k) (arc_at arcs a).end p

-- a plan: n arcs, one for each place in order, the first from the root
pub record Plan (n : ℕ) (arcs : List Arc) (p : List ℕ) : Type 0 where
  pub long : length p ≡ n
  pub path : Path arcs 1 0 p

-- the sum of the minutes
abbrev pub cost : List Arc → List ℕ → ℕ
cost arcs [] = 0
cost arcs (a ∷ p) = (arc_at arcs a).minutes + cost arcs p

-- the node at which a partial plan from node v ends
abbrev pub arrival : List Arc → ℕ → List ℕ → ℕ
arrival arcs v [] = v
arrival arcs v (a ∷ p) = arrival arcs (arc_at arcs a).end p

-- the partial plans that begin with an arc below i of place k from node v, where `on w` are the ways on from node w
abbrev pub begun : List Arc → ℕ → ℕ → (ℕ → List (List ℕ)) → ℕ → List (List ℕ)
begun arcs k v on zero = []
begun arcs k v on (suc i) = begun arcs k v on i ++ cond (next arcs k v i) (map (λ p. i ∷ p) (on (arc_at arcs i).end)) []

-- the partial plans of j arcs from node v of level k, ordered by their arc numbers compared from the first on
abbrev pub paths : List Arc → ℕ → ℕ → ℕ → List (List ℕ)
paths arcs zero k v = [] ∷ []
paths arcs (suc j) k v = begun arcs k v (paths arcs j (suc k)) (length arcs)

-- all plans, ordered by their arc numbers compared from place 1 on
abbrev pub plans : ℕ → List Arc → List (List ℕ)
plans n arcs = paths arcs n 1 0

-- the partial plans to the end from node v of level k
abbrev pub backs : ℕ → List Arc → ℕ → ℕ → List (List ℕ)
backs n arcs k v = paths arcs (suc n - k) k v

-- arc a is there, is of place k and ends at node v
abbrev pub enters : List Arc → ℕ → ℕ → ℕ → Bool
enters arcs k v a = nat_lt a (length arcs) && ((arc_at arcs a).place == k && (arc_at arcs a).end == v)

-- one arc more at the end
abbrev pub push : ℕ → List ℕ → List ℕ
push a p = p ++ a ∷ []

-- the partial plans whose last arc is one below i of place k to node v, where `before u` are the ways to node u
abbrev pub ended : List Arc → ℕ → ℕ → (ℕ → List (List ℕ)) → ℕ → List (List ℕ)
ended arcs k v before zero = []
ended arcs k v before (suc i) = ended arcs k v before i ++ cond (enters arcs k v i) (map (push i) (before (arc_at arcs i).start)) []

-- the partial plans of j arcs from the root to node v
abbrev pub reaching : List Arc → ℕ → ℕ → List (List ℕ)
reaching arcs zero v = cond (v == 0) ([] ∷ []) []
reaching arcs (suc j) v = ended arcs (suc j) v (reaching arcs j) (length arcs)

-- the partial plans from the root to node v of level k
abbrev pub fronts : List Arc → ℕ → ℕ → List (List ℕ)
fronts arcs k v = reaching arcs (k - 1) v

-- being on a list of plans
abbrev pub In : List ℕ → List (List ℕ) → Type 0
In p [] = ⊥
In p (q ∷ qs) = (p ≡ q) ⊎ In p qs

-- p comes before q, by arc numbers compared from the first on
abbrev pub Before : List ℕ → List ℕ → Type 0
Before [] q = ⊥
Before (a ∷ p) [] = ⊥
Before (a ∷ p) (b ∷ q) = (a < b) ⊎ ((a ≡ b) × Before p q)

-- each before all that follow
abbrev pub Ordered : List (List ℕ) → Type 0
Ordered [] = Unit {0}
Ordered (p ∷ ps) = ((q : List ℕ) → In q ps → Before p q) × Ordered ps

-- each on the list once
abbrev pub Distinct : List (List ℕ) → Type 0
Distinct [] = Unit {0}
Distinct (p ∷ ps) = (In p ps → ⊥) × Distinct ps

-- a partial plan of j arcs from node u of level k to node v
pub record PartialPlan (arcs : List Arc) (k u j v : ℕ) (p : List ℕ) : Type 0 where
  pub long : length p ≡ j
  pub path : Path arcs k u p
  pub ends : arrival arcs u p ≡ v

-- node v of level k, on a chart of n places: levels run from 1 to n + 1, nodes from 0 to 31, and the first level and
-- the last have only node 0, the root and the end
pub record Node (n k v : ℕ) : Type 0 where
  pub low : 1 ≤ k
  pub high : k ≤ suc n
  pub below : v < 32
  pub root : k ≡ 1 → v ≡ 0
  pub end : k ≡ suc n → v ≡ 0

-- the list of all plans has every plan once and nothing else, in order; and the lists of partial plans from the
-- root to a node and from a node to the end have each of those once and nothing else
pub record Listed (n : ℕ) (arcs : List Arc) : Type 0 where
  pub plan : (p : List ℕ) → In p (plans n arcs) → Plan n arcs p
  pub every : (p : List ℕ) → Plan n arcs p → In p (plans n arcs)
  pub ordered : Ordered (plans n arcs)
  pub front : (k v : ℕ) → Node n k v → (p : List ℕ) → In p (fronts arcs k v) → PartialPlan arcs 1 0 (k - 1) v p
  pub fronted : (k v : ℕ) → Node n k v → (p : List ℕ) → PartialPlan arcs 1 0 (k - 1) v p → In p (fronts arcs k v)
  pub front_once : (k v : ℕ) → Distinct (fronts arcs k v)
  pub back : (k v : ℕ) → Node n k v → (p : List ℕ) → In p (backs n arcs k v) → PartialPlan arcs k v (suc n - k) 0 p
  pub backed : (k v : ℕ) → Node n k v → (p : List ℕ) → PartialPlan arcs k v (suc n - k) 0 p → In p (backs n arcs k v)
  pub back_once : (k v : ℕ) → Distinct (backs n arcs k v)

abbrev pub PlansListed : Type 0
PlansListed = (n : ℕ) (arcs : List Arc) → Sealed n arcs → Listed n arcs

-- on a sealed chart every plan ends at the end, node 0 of level n + 1
abbrev pub PlansEnd : Type 0
PlansEnd = (n : ℕ) (arcs : List Arc) → Sealed n arcs → (p : List ℕ) → Plan n arcs p → arrival arcs 0 p ≡ 0
