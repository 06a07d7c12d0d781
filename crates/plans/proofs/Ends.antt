-- On a sealed chart a plan, and a partial plan of all the places that are left, ends at the end. Assumes nothing.
use Rattle.std.proofs.Common.{◌≡◌, ℕ, suc, ◌+◌, ◌-◌, List, [], ◌∷◌, length, refl, ◌∙◌, arith}
use Rattle.terms.specs.declared.arc.Arc.{Arc}
use Rattle.plans.specs.Arcs.{arc_at, Sealed}
use Rattle.plans.specs.Plans.{Path, arrival, backs, In, PartialPlan, Node, PlansEnd}
use Rattle.plans.proofs.Steps.{next_there, next_place}
use Rattle.plans.proofs.Listing.{paths_in, paths_out}

-- arcs of all the places from k on end at node 0, and so do no arcs at all where they begin at the end
pub path_ends : (n : ℕ) (arcs : List Arc) → Sealed n arcs → (p : List ℕ) (k v : ℕ) → Path arcs k v p → k + length p ≡ suc n → (k ≡ suc n → v ≡ 0) → arrival arcs v p ≡ 0
path_ends n arcs s [] k v h e z = z (omega arith)
path_ends n arcs s (a ∷ p) k v h e z =
    path_ends n arcs s p (suc k) (arc_at arcs a).end h.1 (omega arith) (λ l. (s.arc a (next_there arcs k v a h.0)).ended (next_place arcs k v a h.0 ∙ omega arith))

-- on a sealed chart every plan ends at the end
pub plans_end : PlansEnd
plans_end n arcs s p h = path_ends n arcs s p 1 0 h.path (omega (arith, h.long)) (λ l. refl)

-- what is listed from a node to the end is a partial plan from there to the end
pub in_back : (n : ℕ) (arcs : List Arc) → Sealed n arcs → (k v : ℕ) → Node n k v → (p : List ℕ) → In p (backs n arcs k v) → PartialPlan arcs k v (suc n - k) 0 p
in_back n arcs s k v x p m =
    let r = paths_out arcs (suc n - k) k v p m in
    record { long = r.0; path = r.1; ends = path_ends n arcs s p k v r.1 (omega (arith, r.0, x.high)) x.end }

-- every partial plan from a node to the end is listed
pub back_in : (n : ℕ) (arcs : List Arc) (k v : ℕ) (p : List ℕ) → PartialPlan arcs k v (suc n - k) 0 p → In p (backs n arcs k v)
back_in n arcs k v p h = paths_in arcs (suc n - k) k v p h.long h.path
