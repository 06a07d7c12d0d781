-- The ways of a sweep are the standing partial plans: from the root, read backwards, and to the end. Assumes nothing.
use Rattle.std.proofs.Common.{◌≡◌, ℕ, zero, suc, ◌+◌, ◌-◌, ◌*◌, ◌<◌, ◌≤◌, Bool, true, false, cond, ◌&&◌, eqb, ltb, List, [], ◌∷◌, ◌++◌, map, reverse, length, get_or, ℤ, sym, refl, ap, ◌∙◌, arith}
use Rattle.std.proofs.lemmas.List.{map-append, reverse-append}
use Rattle.std.proofs.lemmas.List.Sums.{fold_push}
use Rattle.std.proofs.lemmas.Bool.{lt-ltb, eq-eqb, eqb-true, and_parts}
use Rattle.terms.specs.declared.arc.Arc.{Arc}
use Rattle.plans.specs.Arcs.{arc_at, Sealed}
use Rattle.plans.specs.Plans.{next, begun, paths, enters, push, ended, reaching, Node}
use Rattle.plans.specs.Cases.{Case, stands, those}
use Rattle.plans.proofs.Members.{those_append}
use Rattle.ways.specs.Amounts.{along, along_back, joining, forward_amount, backward_amount, Forward, Backward}
use Rattle.ways.specs.Ways.{takes, gathered, ways, way_amount, Filled}
use Rattle.ways.specs.Directions.{onward, backward}
use Rattle.tallies.specs.declared.tally.Tally.{Ghosts}

module _ (s : Case) where
  -- a longer plan stands where its first arc and the rest do
  those_cons : (i : ℕ) (ps : List (List ℕ)) → those (stands s) (map (λ p. i ∷ p) ps) ≡ cond (s i) (map (λ p. i ∷ p) (those (stands s) ps)) []
  those_cons i ps = by (s i) refl ps
    where
      by : (b : Bool) → s i ≡ b → (qs : List (List ℕ)) → those (stands s) (map (λ p. i ∷ p) qs) ≡ cond b (map (λ p. i ∷ p) (those (stands s) qs)) []
      by true e [] = refl
      by true e (q ∷ qs) = rw (e, by true e qs) (at (stands s q))
        where
          at : (d : Bool) → cond d ((i ∷ q) ∷ map (λ p. i ∷ p) (those (stands s) qs)) (map (λ p. i ∷ p) (those (stands s) qs)) ≡ map (λ p. i ∷ p) (cond d (q ∷ those (stands s) qs) (those (stands s) qs))
          at true = refl
          at false = refl
      by false e [] = refl
      by false e (q ∷ qs) = rw (e, by false e qs)

  stands_push : (i : ℕ) (p : List ℕ) → stands s (push i p) ≡ (s i && stands s p)
  stands_push i [] = refl
  stands_push i (a ∷ p) = ap (λ b. s a && b) (stands_push i p) ∙ swap (s a) (s i) (stands s p)
    where
      swap : (x y z : Bool) → (x && (y && z)) ≡ (y && (x && z))
      swap true y z = refl
      swap false true z = refl
      swap false false z = refl

  those_push : (i : ℕ) (ps : List (List ℕ)) → those (stands s) (map (push i) ps) ≡ cond (s i) (map (push i) (those (stands s) ps)) []
  those_push i ps = by (s i) refl ps
    where
      by : (b : Bool) → s i ≡ b → (qs : List (List ℕ)) → those (stands s) (map (push i) qs) ≡ cond b (map (push i) (those (stands s) qs)) []
      by true e [] = refl
      by true e (q ∷ qs) = rw (stands_push i q, e, by true e qs) (at (stands s q))
        where
          at : (d : Bool) → cond d (push i q ∷ map (push i) (those (stands s) qs)) (map (push i) (those (stands s) qs)) ≡ map (push i) (cond d (q ∷ those (stands s) qs) (those (stands s) qs))
          at true = refl
          at false = refl
      by false e [] = refl
      by false e (q ∷ qs) = rw (stands_push i q, e, by false e qs)

-- a test of three parts, in two orders
regroup : {Z : Type 0} (l x p v : Bool) (zs : List Z) → l ≡ true → cond (l && (p && v)) (cond x zs []) [] ≡ cond ((x && p) && v) zs []
regroup true true true true zs e = refl
regroup true true true false zs e = refl
regroup true true false v zs e = refl
regroup true false true true zs e = refl
regroup true false true false zs e = refl
regroup true false false v zs e = refl
regroup false x p v zs e = let z : ◌≡◌ {A = ℕ} 0 1 = cc in absurd (omega arith)

those_cond : (f : List ℕ → Bool) (b : Bool) (ps : List (List ℕ)) → those f (cond b ps []) ≡ cond b (those f ps) []
those_cond f true ps = refl
those_cond f false ps = refl

reverse_cons : (i : ℕ) (p : List ℕ) → reverse (i ∷ p) ≡ push i (reverse p)
reverse_cons i p = reverse-append (i ∷ []) p

map_push_reverse : (i : ℕ) (ps : List (List ℕ)) → map (push i) (map reverse ps) ≡ map reverse (map (λ q. i ∷ q) ps)
map_push_reverse i [] = refl
map_push_reverse i (p ∷ ps) = rw (reverse_cons i p, map_push_reverse i ps)

map_cond : {Z W : Type 0} (f : Z → W) (b : Bool) (zs : List Z) → map f (cond b zs []) ≡ cond b (map f zs) []
map_cond f true zs = refl
map_cond f false zs = refl

module _ (n : ℕ) (arcs : List Arc) (s : Case) where
  -- those that a step onward takes
  ended_ways : (F W : ℕ → List (List ℕ)) → ((u : ℕ) → those (stands s) (F u) ≡ map reverse (W u)) → (k v i : ℕ) → i ≤ length arcs → those (stands s) (ended arcs (suc k) v F i) ≡ map reverse (gathered onward n arcs s W k v i)
  ended_ways F W e k v zero l = refl
  ended_ways F W e k v (suc i) l =
      let x = arc_at arcs i in
      let test = enters arcs (suc k) v i in
      those_append (stands s) (ended arcs (suc k) v F i) (cond test (map (push i) (F x.start)) [])
      ∙ ap (λ ps. ps ++ those (stands s) (cond test (map (push i) (F x.start)) [])) (ended_ways F W e k v i (omega arith))
      ∙ ap (λ ps. map reverse (gathered onward n arcs s W k v i) ++ ps) (
      those_cond (stands s) test (map (push i) (F x.start))
      ∙ ap (λ ps. cond test ps []) (those_push s i (F x.start) ∙ ap (λ ps. cond (s i) (map (push i) ps) []) (e x.start) ∙ ap (λ ps. cond (s i) ps []) (map_push_reverse i (W x.start)))
      ∙ regroup (ltb i (length arcs)) (s i) (eqb x.place (suc k)) (eqb x.end v) (map reverse (map (λ q. i ∷ q) (W x.start))) (lt-ltb i (length arcs) l)
      ∙ sym (map_cond reverse (takes onward n arcs s k i && eqb x.end v) (map (λ q. i ∷ q) (W x.start))))
      ∙ sym (map-append reverse (gathered onward n arcs s W k v i) (cond (takes onward n arcs s k i && eqb x.end v) (map (λ q. i ∷ q) (W x.start)) []))

  reaching_ways : (k v : ℕ) → those (stands s) (reaching arcs k v) ≡ map reverse (ways onward n arcs s k v)
  reaching_ways zero v = root (eqb v 0)
    where
      root : (b : Bool) → those (stands s) (cond b ([] ∷ []) []) ≡ map reverse (cond b ([] ∷ []) [])
      root true = refl
      root false = refl
  reaching_ways (suc k) v = ended_ways (reaching arcs k) (ways onward n arcs s k) (λ u. reaching_ways k u) k v (length arcs) (omega arith)

  -- those that a step backward takes, k of them being taken already
  begun_ways : (F W : ℕ → List (List ℕ)) (k : ℕ) → ((i : ℕ) → i < length arcs → (arc_at arcs i).place ≡ n - k → those (stands s) (F (arc_at arcs i).end) ≡ W (arc_at arcs i).end) → (v i : ℕ) → i ≤ length arcs → those (stands s) (begun arcs (n - k) v F i) ≡ gathered backward n arcs s W k v i
  begun_ways F W k e v zero l = refl
  begun_ways F W k e v (suc i) l =
      let x = arc_at arcs i in
      let test = next arcs (n - k) v i in
      those_append (stands s) (begun arcs (n - k) v F i) (cond test (map (λ p. i ∷ p) (F x.end)) [])
      ∙ ap (λ ps. ps ++ those (stands s) (cond test (map (λ p. i ∷ p) (F x.end)) [])) (begun_ways F W k e v i (omega arith))
      ∙ ap (λ ps. gathered backward n arcs s W k v i ++ ps) (
      those_cond (stands s) test (map (λ p. i ∷ p) (F x.end))
      ∙ ap (λ ps. cond test ps []) (those_cons s i (F x.end))
      ∙ regroup (ltb i (length arcs)) (s i) (eqb x.place (n - k)) (eqb x.start v) (map (λ p. i ∷ p) (those (stands s) (F x.end))) (lt-ltb i (length arcs) l)
      ∙ there (takes backward n arcs s k i) (eqb x.start v) refl)
    where
      there : (b d : Bool) → takes backward n arcs s k i ≡ b → cond (b && d) (map (λ p. i ∷ p) (those (stands s) (F (arc_at arcs i).end))) [] ≡ cond (b && d) (map (λ p. i ∷ p) (W (arc_at arcs i).end)) []
      there true true h = ap (map (λ p. i ∷ p)) (e i l (eqb-true _ _ (and_parts (s i) _ h).1))
      there true false h = refl
      there false d h = refl

  paths_ways : Sealed n arcs → (k v : ℕ) → k ≤ n → (k ≡ 0 → v ≡ 0) → those (stands s) (paths arcs k (suc n - k) v) ≡ ways backward n arcs s k v
  paths_ways sealed zero v l z = ap (λ b. cond b ([] ∷ []) []) (sym (eq-eqb v 0 (z refl)))
  paths_ways sealed (suc k) v l z =
      let level : suc n - suc k ≡ n - k = omega arith in
      let up : suc (n - k) ≡ suc n - k = omega arith in
      ap (λ m. those (stands s) (begun arcs m v (paths arcs k (suc m)) (length arcs))) level
      ∙ ap (λ m. those (stands s) (begun arcs (n - k) v (paths arcs k m) (length arcs))) up
      ∙ begun_ways (paths arcs k (suc n - k)) (ways backward n arcs s k) k (λ i h at. paths_ways sealed k (arc_at arcs i).end (omega arith) (λ q. (sealed.arc i h).ended (omega (arith, at, q)))) v (length arcs) (omega arith)

-- the amounts of partial plans read backwards
module _ {X A : Type 0} (t : Ghosts X A) (price : ℕ → ℤ) where
  along_reverse : (p : List ℕ) → along t price (reverse p) ≡ along_back t price p
  along_reverse [] = refl
  along_reverse (i ∷ p) =
      ap (along t price) (reverse_cons i p) ∙ fold_push (λ a j. t.extends a (price j)) t.start (reverse p) i ∙ ap (λ a. t.extends a (price i)) (along_reverse p)

  amounts_reverse : (ps : List (List ℕ)) → map (along t price) (map reverse ps) ≡ map (along_back t price) ps
  amounts_reverse [] = refl
  amounts_reverse (p ∷ ps) = rw (along_reverse p, amounts_reverse ps)

  module _ (n : ℕ) (arcs : List Arc) (s : Case) where
    pub forward_way : (k v : ℕ) → 1 ≤ k → forward_amount t arcs s price k v ≡ way_amount t onward n arcs s price (k - 1) v
    forward_way k v l =
        ap (λ ps. joining t (map (along t price) ps)) (reaching_ways n arcs s (k - 1) v) ∙ ap (joining t) (amounts_reverse (ways onward n arcs s (k - 1) v))

    pub backward_way : Sealed n arcs → (k v : ℕ) → Node n k v → backward_amount t n arcs s price k v ≡ way_amount t backward n arcs s price (suc n - k) v
    backward_way sealed k v node =
        let low = node.low in
        let high = node.high in
        let same : k ≡ suc n - (suc n - k) = omega arith in
        ap (λ m. joining t (map (along_back t price) (those (stands s) (paths arcs (suc n - k) m v)))) same
        ∙ ap (λ ps. joining t (map (along_back t price) ps)) (paths_ways n arcs s sealed (suc n - k) v (omega arith) (λ e. node.end (omega arith)))

    -- a table that a sweep onward has filled
    pub forward_table : (table : List A) → Filled t onward n arcs s price n table → Forward t n arcs s price table
    forward_table table f k v node =
        let low = node.low in
        let high = node.high in
        f.done (k - 1) v (omega arith) (omega arith) node.below ∙ sym (forward_way k v low)

    -- and one that a sweep backward has filled
    pub backward_table : Sealed n arcs → (table : List A) → Filled t backward n arcs s price n table → Backward t n arcs s price table
    backward_table sealed table f k v node =
        let low = node.low in
        let high = node.high in
        let at : k - 1 ≡ n - (suc n - k) = omega arith in
        ap (λ r. get_or table (32 * r + v) t.nothing) at
        ∙ f.done (suc n - k) v (omega arith) (omega arith) node.below
        ∙ sym (backward_way sealed k v node)
