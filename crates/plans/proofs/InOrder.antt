-- The order of plans, lists in that order, and lists that have each plan once. Assumes nothing.
use Rattle.std.proofs.Common.{◌≡◌, ℕ, zero, suc, ◌-◌, Bool, true, false, cond, List, [], ◌∷◌, ◌++◌, map, length, sym, refl, subst, subst₂, inl, inr, arith}
use Rattle.terms.specs.declared.arc.Arc.{Arc}
use Rattle.plans.specs.Arcs.{arc_at}
use Rattle.plans.specs.Plans.{next, begun, paths, plans, backs, In, Before, Ordered, Distinct}
use Rattle.plans.specs.Cases.{those}
use Rattle.plans.proofs.Members.{in_either, map_in, those_out}
use Rattle.plans.proofs.Listing.{begun_out}

-- no plan comes before itself
pub irreflexive : (p : List ℕ) → Before p p → ⊥
irreflexive [] h = h
irreflexive (a ∷ p) (inl l) = omega arith
irreflexive (a ∷ p) (inr h) = irreflexive p h.1

-- no two plans come before each other
pub antisymmetric : (p q : List ℕ) → Before p q → Before q p → ⊥
antisymmetric [] q h k = h
antisymmetric (a ∷ p) [] h k = h
antisymmetric (a ∷ p) (b ∷ q) (inl h) (inl k) = omega arith
antisymmetric (a ∷ p) (b ∷ q) (inl h) (inr k) = omega (arith, k.0)
antisymmetric (a ∷ p) (b ∷ q) (inr h) (inl k) = omega (arith, h.0)
antisymmetric (a ∷ p) (b ∷ q) (inr h) (inr k) = antisymmetric p q h.1 k.1

-- two lists in order, each plan of one before each of the other, joined
pub ordered_both : (xs ys : List (List ℕ)) → Ordered xs → Ordered ys → ((p q : List ℕ) → In p xs → In q ys → Before p q) → Ordered (xs ++ ys)
ordered_both [] ys o r h = r
ordered_both (x ∷ xs) ys o r h = (
  (λ q m. elim (in_either q xs ys m) [ inl k ↦ o.0 q k | inr k ↦ h x q (inl refl) k ]),
  ordered_both xs ys o.1 r (λ p q i j. h p q (inr i) j),
)

-- a list in order, with the same arc before each plan
pub ordered_map : (i : ℕ) (ps : List (List ℕ)) → Ordered ps → Ordered (map (λ p. i ∷ p) ps)
ordered_map i [] o = tt
ordered_map i (p ∷ ps) o = (
  (λ q m. let r = map_in (λ x. i ∷ x) q ps m in subst (Before (i ∷ p)) (sym r.1.0) (inr (refl, o.0 r.0 r.1.1))),
  ordered_map i ps o.1,
)

module _ (arcs : List Arc) (k v : ℕ) (go : ℕ → List (List ℕ)) (each : (w : ℕ) → Ordered (go w)) where
  abbrev block : ℕ → Bool → List (List ℕ)
  block i b = cond b (map (λ p. i ∷ p) (go (arc_at arcs i).end)) []

  block_starts : (q : List ℕ) (i : ℕ) (b : Bool) → In q (block i b) → (p : List ℕ) × (q ≡ i ∷ p)
  block_starts q i true m = let r = map_in (λ x. i ∷ x) q (go (arc_at arcs i).end) m in (r.0, r.1.0)
  block_starts q i false m = absurd m

  block_ordered : (i : ℕ) (b : Bool) → Ordered (block i b)
  block_ordered i true = ordered_map i (go (arc_at arcs i).end) (each (arc_at arcs i).end)
  block_ordered i false = tt

  begun_ordered : (i : ℕ) → Ordered (begun arcs k v go i)
  begun_ordered zero = tt
  begun_ordered (suc i) =
      ordered_both (begun arcs k v go i) (block i (next arcs k v i)) (begun_ordered i) (block_ordered i (next arcs k v i)) (λ p q x y.
      let a = begun_out arcs k v go p i x in
      let b = block_starts q i (next arcs k v i) y in
      subst₂ Before (sym a.1.1.0) (sym b.1) (inl a.1.1.1.0))

-- the partial plans from a node are in order
pub paths_ordered : (arcs : List Arc) (j k v : ℕ) → Ordered (paths arcs j k v)
paths_ordered arcs zero k v = ((λ q m. absurd m), tt)
paths_ordered arcs (suc j) k v = begun_ordered arcs k v (paths arcs j (suc k)) (paths_ordered arcs j (suc k)) (length arcs)

-- the list of all plans is in order
pub plans_ordered : (n : ℕ) (arcs : List Arc) → Ordered (plans n arcs)
plans_ordered n arcs = paths_ordered arcs n 1 0

-- those that pass a test stay in order
pub those_ordered : (f : List ℕ → Bool) (ps : List (List ℕ)) → Ordered ps → Ordered (those f ps)
those_ordered f [] o = tt
those_ordered f (p ∷ ps) o =
    elim (f p) as (λ b. Ordered (cond b (p ∷ those f ps) (those f ps))) [
      | true ↦ ((λ q m. o.0 q (those_out f q ps m).1), those_ordered f ps o.1)
      | false ↦ those_ordered f ps o.1
    ]

-- a list in order has each plan once
pub ordered_once : (ps : List (List ℕ)) → Ordered ps → Distinct ps
ordered_once [] o = tt
ordered_once (p ∷ ps) o = ((λ m. irreflexive p (o.0 p m)), ordered_once ps o.1)

-- two lists that share no plan, each with each of its plans once, joined
pub once_both : (xs ys : List (List ℕ)) → Distinct xs → Distinct ys → ((p : List ℕ) → In p xs → In p ys → ⊥) → Distinct (xs ++ ys)
once_both [] ys o r h = r
once_both (x ∷ xs) ys o r h = (
  (λ m. elim (in_either x xs ys m) [ inl k ↦ o.0 k | inr k ↦ h x (inl refl) k ]),
  once_both xs ys o.1 r (λ p i j. h p (inr i) j),
)

-- different plans with different images: each image is there once
pub once_map : (g : List ℕ → List ℕ) → ((p q : List ℕ) → g p ≡ g q → p ≡ q) → (ps : List (List ℕ)) → Distinct ps → Distinct (map g ps)
once_map g same [] o = tt
once_map g same (p ∷ ps) o = (
  (λ m. let r = map_in g (g p) ps m in o.0 (subst (λ x. In x ps) (sym (same p r.0 r.1.0)) r.1.1)),
  once_map g same ps o.1,
)

-- the list of partial plans from a node to the end has each once
pub backs_once : (n : ℕ) (arcs : List Arc) (k v : ℕ) → Distinct (backs n arcs k v)
backs_once n arcs k v = ordered_once (backs n arcs k v) (paths_ordered arcs (suc n - k) k v)
