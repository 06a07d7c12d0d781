-- The list of partial plans from the root to a node has each of them once, and nothing else. Assumes nothing.
use Rattle.std.proofs.Common.{◌≡◌, ℕ, zero, suc, ◌+◌, ◌-◌, ◌<◌, Bool, true, false, cond, eqb, List, [], ◌∷◌, ◌++◌, map, length, sym, refl, ◌∙◌, subst, inl, inr, arith}
use Rattle.terms.specs.declared.arc.Arc.{Arc}
use Rattle.std.proofs.lemmas.List.{append_assoc, append-nil, length_push, same_from_push}
use Rattle.std.proofs.lemmas.Bool.{cases_eq, eqb-true}
use Rattle.plans.specs.Arcs.{arc_at}
use Rattle.plans.specs.Plans.{next, enters, push, Path, arrival, ended, reaching, fronts, In, Distinct, PartialPlan}
use Rattle.plans.proofs.Members.{in_left, in_right, in_either, in_map, map_in}
use Rattle.plans.proofs.Steps.{next_there, next_start, next_enters, enters_next, enters_end, path_join, arrival_join}
use Rattle.plans.proofs.InOrder.{once_both, once_map}

module _ (arcs : List Arc) (k v : ℕ) (before : ℕ → List (List ℕ)) where
  abbrev block : ℕ → Bool → List (List ℕ)
  block i b = cond b (map (push i) (before (arc_at arcs i).start)) []

  -- a way to the start of an arc below i that enters the node, and that arc
  pub ended_in : (i a : ℕ) (p : List ℕ) → a < i → enters arcs k v a ≡ true → In p (before (arc_at arcs a).start) → In (push a p) (ended arcs k v before i)
  ended_in zero a p l h m = absurd (omega arith)
  ended_in (suc i) a p l h m =
      elim (cases_eq a i) [
        | inl e ↦
            let here : In (push a p) (block a (enters arcs k v a)) = subst (λ b. In (push a p) (block a b)) (sym h) (in_map (push a) p (before (arc_at arcs a).start) m) in
            in_right (push a p) (ended arcs k v before i) (block i (enters arcs k v i)) (subst (λ j. In (push a p) (block j (enters arcs k v j))) e here)
        | inr n ↦ in_left (push a p) (ended arcs k v before i) (block i (enters arcs k v i)) (ended_in i a p (omega arith) h m)
      ]

  -- ends with an arc below i that enters the node
  abbrev pub EndsWith : ℕ → List ℕ → Type 0
  EndsWith i q = (a : ℕ) × ((p : List ℕ) × ((q ≡ push a p) × ((a < i) × ((enters arcs k v a ≡ true) × In p (before (arc_at arcs a).start)))))

  block_out : (q : List ℕ) (i : ℕ) (b : Bool) → enters arcs k v i ≡ b → In q (block i b) → EndsWith (suc i) q
  block_out q i true h m = let r = map_in (push i) q (before (arc_at arcs i).start) m in (i, (r.0, (r.1.0, (omega arith, (h, r.1.1)))))
  block_out q i false h m = absurd m

  -- each partial plan so listed ends so
  pub ended_out : (q : List ℕ) (i : ℕ) → In q (ended arcs k v before i) → EndsWith i q
  ended_out q zero m = absurd m
  ended_out q (suc i) m =
      elim (in_either q (ended arcs k v before i) (block i (enters arcs k v i)) m) [
        | inl l ↦ let r = ended_out q i l in (r.0, (r.1.0, (r.1.1.0, (omega (arith, r.1.1.1.0), r.1.1.1.1))))
        | inr l ↦ block_out q i (enters arcs k v i) refl l
      ]

  block_last : (q : List ℕ) (i : ℕ) (b : Bool) → In q (block i b) → (p : List ℕ) × (q ≡ push i p)
  block_last q i true m = let r = map_in (push i) q (before (arc_at arcs i).start) m in (r.0, r.1.0)
  block_last q i false m = absurd m

  module _ (each : (u : ℕ) → Distinct (before u)) where
    block_once : (i : ℕ) (b : Bool) → Distinct (block i b)
    block_once i true = once_map (push i) (λ p q e. (same_from_push p q i i e).0) (before (arc_at arcs i).start) (each (arc_at arcs i).start)
    block_once i false = tt

    -- each of them is there once: those with different last arcs differ
    pub ended_once : (i : ℕ) → Distinct (ended arcs k v before i)
    ended_once zero = tt
    ended_once (suc i) =
        once_both (ended arcs k v before i) (block i (enters arcs k v i)) (ended_once i) (block_once i (enters arcs k v i)) (λ q x y.
        let a = ended_out q i x in
        let b = block_last q i (enters arcs k v i) y in
        let s = same_from_push a.1.0 b.0 a.0 i (sym a.1.1.0 ∙ b.1) in
        omega (arith, s.1, a.1.1.1.0))

-- each listed is a partial plan of j arcs from the root to that node
pub reaching_out : (arcs : List Arc) (j v : ℕ) (q : List ℕ) → In q (reaching arcs j v) → PartialPlan arcs 1 0 j v q
reaching_out arcs zero v q m = root (eqb v 0) (eqb-true v 0) m
  where
    root : (b : Bool) → (b ≡ true → v ≡ 0) → In q (cond b ([] ∷ []) []) → PartialPlan arcs 1 0 0 v q
    root true e (inl s) = subst (PartialPlan arcs 1 0 0 v) (sym s) (record { long = refl; path = tt; ends = sym (e refl) })
    root true e (inr l) = absurd l
    root false e l = absurd l
reaching_out arcs (suc j) v q m =
    let b = ended_out arcs (suc j) v (reaching arcs j) q (length arcs) m in
    let a = b.0 in
    let p = b.1.0 in
    let h : enters arcs (suc j) v a ≡ true = b.1.1.1.1.0 in
    let r : PartialPlan arcs 1 0 j (arc_at arcs a).start p = reaching_out arcs j (arc_at arcs a).start p b.1.1.1.1.1 in
    let on : Path arcs (suc j) (arrival arcs 0 p) (a ∷ []) = (subst (λ u. next arcs (suc j) u a ≡ true) (sym r.ends) (enters_next arcs (suc j) v a h), tt) in
    subst (PartialPlan arcs 1 0 (suc j) v) (sym b.1.1.0) (record {
      long = omega (arith, length_push p a, r.long);
      path = path_join arcs p (a ∷ []) 1 0 (suc j) (omega (arith, r.long)) r.path on;
      ends = arrival_join arcs p (a ∷ []) 0 ∙ enters_end arcs (suc j) v a h;
    })

-- a listed partial plan, and arcs that go on from where it ends
pub reaching_on : (arcs : List Arc) (q : List ℕ) (j u m v : ℕ) (a : List ℕ) → In a (reaching arcs j u) → Path arcs (suc j) u q → j + length q ≡ m → arrival arcs u q ≡ v → In (a ++ q) (reaching arcs m v)
reaching_on arcs [] j u m v a h w e f =
    let s : j ≡ m = omega arith in
    subst (λ x. In x (reaching arcs m v)) (sym (append-nil a)) (subst (λ y. In a (reaching arcs y v)) s (subst (λ y. In a (reaching arcs j y)) f h))
reaching_on arcs (i ∷ q) j u m v a h w e f =
    let s = next_start arcs (suc j) u i w.0 in
    let here : In (push i a) (reaching arcs (suc j) (arc_at arcs i).end) =
    ended_in arcs (suc j) (arc_at arcs i).end (reaching arcs j) (length arcs) i a (next_there arcs (suc j) u i w.0) (next_enters arcs (suc j) u i w.0) (subst (λ y. In a (reaching arcs j y)) (sym s) h) in
    subst (λ x. In x (reaching arcs m v)) (append_assoc a (i ∷ []) q) (reaching_on arcs q (suc j) (arc_at arcs i).end m v (push i a) here w.1 (omega arith) f)

-- every partial plan of j arcs from the root to a node is listed
pub reaching_in : (arcs : List Arc) (j v : ℕ) (p : List ℕ) → PartialPlan arcs 1 0 j v p → In p (reaching arcs j v)
reaching_in arcs j v p h = reaching_on arcs p 0 0 j v [] (inl refl) h.path (omega (arith, h.long)) h.ends

-- each is listed once
pub reaching_once : (arcs : List Arc) (j v : ℕ) → Distinct (reaching arcs j v)
reaching_once arcs zero v = elim (eqb v 0) as (λ b. Distinct (cond b ([] ∷ []) [])) [ true ↦ ((λ m. m), tt) | false ↦ tt ]
reaching_once arcs (suc j) v = ended_once arcs (suc j) v (reaching arcs j) (reaching_once arcs j) (length arcs)

-- the list of partial plans from the root to a node has each once
pub fronts_once : (arcs : List Arc) (k v : ℕ) → Distinct (fronts arcs k v)
fronts_once arcs k v = reaching_once arcs (k - 1) v
