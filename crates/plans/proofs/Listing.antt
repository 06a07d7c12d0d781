-- The lists of plans, and of partial plans from a node, have every one and nothing else. Assumes nothing.
use Rattle.std.proofs.Common.{◌≡◌, ℕ, zero, suc, ◌<◌, Bool, true, false, cond, List, [], ◌∷◌, map, length, sym, refl, ap, subst, inl, inr, arith}
use Rattle.terms.specs.declared.arc.Arc.{Arc}
use Rattle.std.proofs.lemmas.Bool.{cases_eq}
use Rattle.plans.specs.Arcs.{arc_at}
use Rattle.plans.specs.Plans.{next, Path, Plan, begun, paths, plans, In}
use Rattle.plans.proofs.Members.{in_left, in_right, in_either, in_map, map_in}
use Rattle.plans.proofs.Steps.{next_there}

module _ (arcs : List Arc) (k v : ℕ) (go : ℕ → List (List ℕ)) where
  abbrev block : ℕ → Bool → List (List ℕ)
  block i b = cond b (map (λ p. i ∷ p) (go (arc_at arcs i).end)) []

  -- an arc below i that may come next, and a way on from its end
  pub begun_in : (i a : ℕ) (p : List ℕ) → a < i → next arcs k v a ≡ true → In p (go (arc_at arcs a).end) → In (a ∷ p) (begun arcs k v go i)
  begun_in zero a p l h m = absurd (omega arith)
  begun_in (suc i) a p l h m =
      elim (cases_eq a i) [
        | inl e ↦
            let here : In (a ∷ p) (block a (next arcs k v a)) = subst (λ b. In (a ∷ p) (block a b)) (sym h) (in_map (λ q. a ∷ q) p (go (arc_at arcs a).end) m) in
            in_right (a ∷ p) (begun arcs k v go i) (block i (next arcs k v i)) (subst (λ j. In (a ∷ p) (block j (next arcs k v j))) e here)
        | inr n ↦ in_left (a ∷ p) (begun arcs k v go i) (block i (next arcs k v i)) (begun_in i a p (omega arith) h m)
      ]

  -- begins with an arc below i that may come next, and then goes on
  abbrev pub Begins : ℕ → List ℕ → Type 0
  Begins i q = (a : ℕ) × ((p : List ℕ) × ((q ≡ a ∷ p) × ((a < i) × ((next arcs k v a ≡ true) × In p (go (arc_at arcs a).end)))))

  block_out : (q : List ℕ) (i : ℕ) (b : Bool) → next arcs k v i ≡ b → In q (block i b) → Begins (suc i) q
  block_out q i true h m = let r = map_in (λ p. i ∷ p) q (go (arc_at arcs i).end) m in (i, (r.0, (r.1.0, (omega arith, (h, r.1.1)))))
  block_out q i false h m = absurd m

  -- each partial plan so listed begins so
  pub begun_out : (q : List ℕ) (i : ℕ) → In q (begun arcs k v go i) → Begins i q
  begun_out q zero m = absurd m
  begun_out q (suc i) m =
      elim (in_either q (begun arcs k v go i) (block i (next arcs k v i)) m) [
        | inl l ↦ let r = begun_out q i l in (r.0, (r.1.0, (r.1.1.0, (omega (arith, r.1.1.1.0), r.1.1.1.1))))
        | inr l ↦ block_out q i (next arcs k v i) refl l
      ]

-- every partial plan of j arcs from a node is listed
pub paths_in : (arcs : List Arc) (j k v : ℕ) (p : List ℕ) → length p ≡ j → Path arcs k v p → In p (paths arcs j k v)
paths_in arcs zero k v [] e h = inl refl
paths_in arcs zero k v (a ∷ p) e h = absurd (omega arith)
paths_in arcs (suc j) k v [] e h = absurd (omega arith)
paths_in arcs (suc j) k v (a ∷ p) e h =
    begun_in arcs k v (paths arcs j (suc k)) (length arcs) a p (next_there arcs k v a h.0) h.0 (paths_in arcs j (suc k) (arc_at arcs a).end p (omega arith) h.1)

-- each listed is a partial plan of j arcs from that node
pub paths_out : (arcs : List Arc) (j k v : ℕ) (q : List ℕ) → In q (paths arcs j k v) → (length q ≡ j) × Path arcs k v q
paths_out arcs zero k v q (inl e) = subst (λ (x : List ℕ). (length x ≡ 0) × Path arcs k v x) (sym e) (refl, tt)
paths_out arcs zero k v q (inr m) = absurd m
paths_out arcs (suc j) k v q m =
    let b = begun_out arcs k v (paths arcs j (suc k)) q (length arcs) m in
    let r = paths_out arcs j (suc k) (arc_at arcs b.0).end b.1.0 b.1.1.1.1.1 in
    subst (λ (x : List ℕ). (length x ≡ suc j) × Path arcs k v x) (sym b.1.1.0) (ap suc r.0, (b.1.1.1.1.0, r.1))

-- each listed plan is a plan
pub in_plan : (n : ℕ) (arcs : List Arc) (p : List ℕ) → In p (plans n arcs) → Plan n arcs p
in_plan n arcs p m = let r = paths_out arcs n 1 0 p m in record { long = r.0; path = r.1 }

-- every plan is listed
pub plan_in_lem : (n : ℕ) (arcs : List Arc) (p : List ℕ) → Plan n arcs p → In p (plans n arcs)
plan_in_lem n arcs p l = paths_in arcs n 1 0 p l.long l.path
