-- One arc after another: what the tests of the next arc say, and partial plans joined. Assumes nothing.
use Rattle.std.proofs.Common.{◌≡◌, ℕ, suc, ◌+◌, ◌<◌, true, eqb, ltb, List, [], ◌∷◌, ◌++◌, length, refl, subst, arith}
use Rattle.terms.specs.declared.arc.Arc.{Arc}
use Rattle.std.proofs.lemmas.Bool.{and_parts, and_from, ltb-true, lt-ltb, eqb-true, eq-eqb}
use Rattle.plans.specs.Arcs.{arc_at}
use Rattle.plans.specs.Plans.{next, enters, Path, arrival}

-- the next arc is there
pub next_there : (arcs : List Arc) (k v a : ℕ) → next arcs k v a ≡ true → a < length arcs
next_there arcs k v a h = ltb-true a (length arcs) (and_parts (ltb a (length arcs)) _ h).0

-- the next arc is of that place
pub next_place : (arcs : List Arc) (k v a : ℕ) → next arcs k v a ≡ true → (arc_at arcs a).place ≡ k
next_place arcs k v a h = eqb-true _ k (and_parts (eqb (arc_at arcs a).place k) _ (and_parts (ltb a (length arcs)) _ h).1).0

-- the next arc starts at that node
pub next_start : (arcs : List Arc) (k v a : ℕ) → next arcs k v a ≡ true → (arc_at arcs a).start ≡ v
next_start arcs k v a h = eqb-true _ v (and_parts (eqb (arc_at arcs a).place k) _ (and_parts (ltb a (length arcs)) _ h).1).1

-- an arc that is there, of that place and from that node may come next
pub next_from : (arcs : List Arc) (k v a : ℕ) → a < length arcs → (arc_at arcs a).place ≡ k → (arc_at arcs a).start ≡ v → next arcs k v a ≡ true
next_from arcs k v a l e f = and_from _ _ (lt-ltb a (length arcs) l) (and_from _ _ (eq-eqb _ k e) (eq-eqb _ v f))

-- an arc that enters a node is there
pub enters_there : (arcs : List Arc) (k v a : ℕ) → enters arcs k v a ≡ true → a < length arcs
enters_there arcs k v a h = ltb-true a (length arcs) (and_parts (ltb a (length arcs)) _ h).0

-- an arc that enters a node is of that place
pub enters_place : (arcs : List Arc) (k v a : ℕ) → enters arcs k v a ≡ true → (arc_at arcs a).place ≡ k
enters_place arcs k v a h = eqb-true _ k (and_parts (eqb (arc_at arcs a).place k) _ (and_parts (ltb a (length arcs)) _ h).1).0

-- an arc that enters a node ends there
pub enters_end : (arcs : List Arc) (k v a : ℕ) → enters arcs k v a ≡ true → (arc_at arcs a).end ≡ v
enters_end arcs k v a h = eqb-true _ v (and_parts (eqb (arc_at arcs a).place k) _ (and_parts (ltb a (length arcs)) _ h).1).1

-- an arc that is there, of that place and to that node enters it
pub enters_from : (arcs : List Arc) (k v a : ℕ) → a < length arcs → (arc_at arcs a).place ≡ k → (arc_at arcs a).end ≡ v → enters arcs k v a ≡ true
enters_from arcs k v a l e f = and_from _ _ (lt-ltb a (length arcs) l) (and_from _ _ (eq-eqb _ k e) (eq-eqb _ v f))

-- an arc that enters a node may come next at its start
pub enters_next : (arcs : List Arc) (k v a : ℕ) → enters arcs k v a ≡ true → next arcs k (arc_at arcs a).start a ≡ true
enters_next arcs k v a h = next_from arcs k (arc_at arcs a).start a (enters_there arcs k v a h) (enters_place arcs k v a h) refl

-- an arc that comes next enters its end
pub next_enters : (arcs : List Arc) (k v a : ℕ) → next arcs k v a ≡ true → enters arcs k (arc_at arcs a).end a ≡ true
next_enters arcs k v a h = enters_from arcs k (arc_at arcs a).end a (next_there arcs k v a h) (next_place arcs k v a h) refl

-- a partial plan and one that goes on from where it ends, joined
pub path_join : (arcs : List Arc) (p q : List ℕ) (k u m : ℕ) → k + length p ≡ m → Path arcs k u p → Path arcs m (arrival arcs u p) q → Path arcs k u (p ++ q)
path_join arcs [] q k u m e h g = let s : m ≡ k = omega arith in subst (λ x. Path arcs x u q) s g
path_join arcs (a ∷ p) q k u m e h g = (h.0, path_join arcs p q (suc k) (arc_at arcs a).end m (omega arith) h.1 g)

-- where they end
pub arrival_join : (arcs : List Arc) (p q : List ℕ) (u : ℕ) → arrival arcs u (p ++ q) ≡ arrival arcs (arrival arcs u p) q
arrival_join arcs [] q u = refl
arrival_join arcs (a ∷ p) q u = arrival_join arcs p q (arc_at arcs a).end

-- the first part of a partial plan
pub path_front : (arcs : List Arc) (p q : List ℕ) (k u : ℕ) → Path arcs k u (p ++ q) → Path arcs k u p
path_front arcs [] q k u h = tt
path_front arcs (a ∷ p) q k u h = (h.0, path_front arcs p q (suc k) (arc_at arcs a).end h.1)

-- the rest of it
pub path_rest : (arcs : List Arc) (p q : List ℕ) (k u m : ℕ) → k + length p ≡ m → Path arcs k u (p ++ q) → Path arcs m (arrival arcs u p) q
path_rest arcs [] q k u m e h = let s : k ≡ m = omega arith in subst (λ x. Path arcs x u q) s h
path_rest arcs (a ∷ p) q k u m e h = path_rest arcs p q (suc k) (arc_at arcs a).end m (omega arith) h.1
