-- The table of a sweep while it is filled. Assumes nothing.
use Rattle.std.proofs.Common.{◌≡◌, ℕ, zero, suc, ◌+◌, ◌<◌, ◌≤◌, true, false, cond, ◌≢◌, List, [], ◌∷◌, map, length, get_or, set, ℤ, pos, negsuc, nat_abs, sym, ap, ◌∙◌, subst, ⊎_elim, add-one, arith, get_or-set_other, get_or-set_same, w64, SFits, to_z, of_z}
use Rattle.std.proofs.lemmas.List.{get_or_past}
use Rattle.std.proofs.lemmas.Int.{to_z-of_z}
use Rattle.std.proofs.lemmas.Bool.{cases_eq, cases_lt, ne_eqb, and_left, and_right}
use Rattle.terms.specs.declared.arc.Arc.{Arc}
use Rattle.plans.specs.Arcs.{arc_at, OnNodes}
use Rattle.plans.specs.Cases.{Case}
use Rattle.tallies.specs.Laws.{wide, steep}
use Rattle.tallies.specs.Headings.{HeadingLaws}
use Rattle.ways.specs.Amounts.{along_back, joining}
use Rattle.ways.specs.Ways.{takes, way_amount, relaxed, spot, Filled}
use Rattle.tallies.specs.declared.tally.Tally.{Ghosts}
use Rattle.tallies.specs.declared.heading.Heading.{Ghosts as Directed}
use Rattle.ways.proofs.Sums.{Lawful, so_far, one_taken, one_left, neutral_right, way_narrow}

-- a price that a call is passed
pub price_fits : (z : ℤ) → nat_abs z ≤ steep → SFits w64 z
price_fits (pos n) h = record { sfits = omega arith }
price_fits (negsuc n) h = record { sfits = omega arith }

pub price_passed : (z : ℤ) → nat_abs z ≤ steep → to_z w64 (of_z w64 z) ≡ z
price_passed z h = to_z-of_z w64 z (price_fits z h)

-- the laws of a heading
abbrev pub Straight : {Y : Type 0} → Directed Y → Type 0
Straight h = HeadingLaws h.near h.far h.place h.row

-- two nodes have two entries
pub spots_apart : {Y : Type 0} (h : Directed Y) → Straight h → (n k l v w : ℕ) → k ≤ n → l ≤ n → v < 32 → w < 32 → spot h n k v ≡ spot h n l w → (k ≡ l) × (v ≡ w)
spots_apart h st n k l v w a b x y e =
    let r : h.row n k ≡ h.row n l = omega arith in (st.row_apart n k l a b r, omega arith)

pub spot_within : {Y : Type 0} (h : Directed Y) → Straight h → (n k v : ℕ) → n ≤ 32 → k ≤ n → v < 32 → spot h n k v < 1056
spot_within h st n k v few a x = omega (arith, st.row_within n k a)

-- the rows of the steps up to k are filled, that of the next by the arcs below i, and the others hold no plan
pub record Arriving {X A Y : Type 0} (t : Ghosts X A) (h : Directed Y) (n : ℕ) (arcs : List Arc) (s : Case) (price : ℕ → ℤ) (k i : ℕ) (out : List A) : Type 0 where
  pub done : (l v : ℕ) → l ≤ k → l ≤ n → v < 32 → get_or out (spot h n l v) t.nothing ≡ way_amount t h n arcs s price l v
  pub here : (v : ℕ) → v < 32 → get_or out (spot h n (k + 1) v) t.nothing ≡ so_far t h n arcs s price k v i
  pub rest : (l v : ℕ) → k + 1 < l → l ≤ n → v < 32 → get_or out (spot h n l v) t.nothing ≡ t.nothing

module _ {X A Y : Type 0} (t : Ghosts X A) (laws : Lawful t) (h : Directed Y) (st : Straight h) (n : ℕ) (few : n ≤ 32) (arcs : List Arc) (s : Case) (price : ℕ → ℤ) where
  -- the row of a level whose ways are those to node 0 alone
  pub filled_start : (out : List A) → length out ≡ 1056 → ((q : ℕ) → get_or out q t.nothing ≡ t.nothing) → Filled t h n arcs s price 0 (set out (spot h n 0 0) t.start)
  filled_start out long none = record { done = done; rest = rest }
    where
      within : spot h n 0 0 < length out
      within = omega (arith, spot_within h st n 0 0 few (omega arith) (omega arith))

      other : (l v : ℕ) → l ≤ n → v < 32 → ((l ≡ 0) × (v ≡ 0) → ⊥) → get_or (set out (spot h n 0 0) t.start) (spot h n l v) t.nothing ≡ t.nothing
      other l v a b no' =
          let ne : spot h n l v ≢ spot h n 0 0 = λ e. no' (spots_apart h st n l 0 v 0 a (omega arith) b (omega arith) e) in
          get_or-set_other out (spot h n 0 0) (spot h n l v) t.start t.nothing ne ∙ none (spot h n l v)

      done : (l v : ℕ) → l ≤ 0 → l ≤ n → v < 32 → get_or (set out (spot h n 0 0) t.start) (spot h n l v) t.nothing ≡ way_amount t h n arcs s price l v
      done zero zero _ _ _ = get_or-set_same out (spot h n 0 0) t.start t.nothing within ∙ sym (neutral_right t laws t.start)
      done zero (suc v) _ a b =
          let ne : suc v ≢ 0 = omega arith in
          other 0 (suc v) a b (λ e. ne e.1) ∙ sym (ap (λ b. joining t (map (along_back t price) (cond b ([] ∷ []) []))) (ne_eqb (suc v) 0 ne))
      done (suc l) v e _ _ = absurd (omega arith)

      rest : (l v : ℕ) → 0 < l → l ≤ n → v < 32 → get_or (set out (spot h n 0 0) t.start) (spot h n l v) t.nothing ≡ t.nothing
      rest l v a b d = other l v b d (λ e. omega (arith, e.0))

  module _ (small : (a : ℕ) → nat_abs (price a) ≤ steep) where
    pub arriving_start : (k : ℕ) (out : List A) → k < n → Filled t h n arcs s price k out → Arriving t h n arcs s price k 0 out
    arriving_start k out l f = record {
      done = f.done;
      here = λ v b. f.rest (k + 1) v (omega arith) (omega arith) b;
      rest = λ l v a b d. f.rest l v (omega arith) b d;
    }

    pub arriving_all : (k i : ℕ) (out : List A) → k < n → i ≡ length arcs → Arriving t h n arcs s price k i out → Filled t h n arcs s price (k + 1) out
    arriving_all k i out l all r = record { done = done; rest = λ l v a b d. r.rest l v a b d }
      where
        done : (l v : ℕ) → l ≤ k + 1 → l ≤ n → v < 32 → get_or out (spot h n l v) t.nothing ≡ way_amount t h n arcs s price l v
        done l v a b d =
            ⊎_elim (λ (y : l < k + 1). r.done l v (omega arith) b d) (λ (y : k + 1 ≤ l). let e : suc k ≡ l = omega arith in subst (λ m. get_or out (spot h n m v) t.nothing ≡ way_amount t h n arcs s price m v) e (rw add-one at (r.here v d ∙ ap (so_far t h n arcs s price k v) all))) (cases_lt l (k + 1))

    module _ (k i : ℕ) (l : k < n) where
      narrow : k < 32
      narrow = omega arith

      -- what an arc extends is not too large
      pub before_narrow : (out : List A) (v : ℕ) → v < 32 → Arriving t h n arcs s price k i out → t.size (get_or out (spot h n k v) t.nothing) < wide
      before_narrow out v b r =
          subst (λ a. t.size a < wide) (sym (r.done k v (omega arith) (omega arith) b)) (way_narrow t laws h n arcs s price small k v (omega arith))

      -- an arc that the step does not take
      pub arriving_no : (out : List A) → takes h n arcs s k i ≡ false → Arriving t h n arcs s price k i out → Arriving t h n arcs s price k (i + 1) out
      arriving_no out e r = record {
        done = r.done;
        here = λ v b. r.here v b ∙ sym (left v);
        rest = r.rest;
      }
        where
          left : (v : ℕ) → so_far t h n arcs s price k v (i + 1) ≡ so_far t h n arcs s price k v i
          left v = ap (so_far t h n arcs s price k v) (add-one i) ∙ one_left t laws h n arcs s price small k v i narrow (and_left _ _ e)

      -- the table after arc i
      abbrev pub stepped : List A → List A
      stepped out = relaxed t out (spot h n k (h.near (arc_at arcs i))) (spot h n (k + 1) (h.far (arc_at arcs i))) (price i)

      -- what arc i writes
      abbrev put : List A → A
      put out =
          t.joins (get_or out (spot h n (k + 1) (h.far (arc_at arcs i))) t.nothing) (t.extends (get_or out (spot h n k (h.near (arc_at arcs i))) t.nothing) (price i))

      pub arriving_yes : (out next : List A) → length out ≡ 1056 → takes h n arcs s k i ≡ true → OnNodes (arc_at arcs i) → Arriving t h n arcs s price k i out → next ≡ stepped out → Arriving t h n arcs s price k (i + 1) next
      arriving_yes out next long took nodes r is = rw is record { done = done; here = here; rest = rest }
        where
          from : h.near (arc_at arcs i) < 32
          from = st.near_node (arc_at arcs i) nodes

          to : h.far (arc_at arcs i) < 32
          to = st.far_node (arc_at arcs i) nodes

          -- every other entry stays
          other : (m v : ℕ) → m ≤ n → v < 32 → ((m ≡ k + 1) × (v ≡ h.far (arc_at arcs i)) → ⊥) → get_or (stepped out) (spot h n m v) t.nothing ≡ get_or out (spot h n m v) t.nothing
          other m v a b no' =
              let ne : spot h n m v ≢ spot h n (k + 1) (h.far (arc_at arcs i)) = λ e. no' (spots_apart h st n m (k + 1) v (h.far (arc_at arcs i)) a (omega arith) b to e) in
              get_or-set_other out (spot h n (k + 1) (h.far (arc_at arcs i))) (spot h n m v) (put out) t.nothing ne

          done : (m v : ℕ) → m ≤ k → m ≤ n → v < 32 → get_or (stepped out) (spot h n m v) t.nothing ≡ way_amount t h n arcs s price m v
          done m v a b d = other m v b d (λ e. omega (arith, e.0)) ∙ r.done m v a b d

          same : (v : ℕ) → v < 32 → h.far (arc_at arcs i) ≡ v → get_or (stepped out) (spot h n (k + 1) v) t.nothing ≡ so_far t h n arcs s price k v (i + 1)
          same v w b =
              let lt : spot h n (k + 1) (h.far (arc_at arcs i)) < length out = omega (arith, spot_within h st n (k + 1) (h.far (arc_at arcs i)) few (omega arith) to) in
              let moved = ap (λ x. get_or (stepped out) (spot h n (k + 1) x) t.nothing) (sym b) in
              let there = ap (λ x. get_or out (spot h n (k + 1) x) t.nothing) b ∙ r.here v w in
              let before = r.done k (h.near (arc_at arcs i)) (omega arith) (omega arith) from in
              let wrote = get_or-set_same out (spot h n (k + 1) (h.far (arc_at arcs i))) (put out) t.nothing lt in
              let more = one_taken t laws h n arcs s price small k v i narrow took b in
              let up = ap (so_far t h n arcs s price k v) (add-one i) in
              cc

          differs : (v : ℕ) → v < 32 → (h.far (arc_at arcs i) ≡ v → ⊥) → get_or (stepped out) (spot h n (k + 1) v) t.nothing ≡ so_far t h n arcs s price k v (i + 1)
          differs v w b =
              other (k + 1) v (omega arith) w (λ e. b (sym e.1)) ∙ r.here v w ∙ sym (ap (so_far t h n arcs s price k v) (add-one i) ∙ one_left t laws h n arcs s price small k v i narrow (and_right _ _ (ne_eqb _ _ b)))

          here : (v : ℕ) → v < 32 → get_or (stepped out) (spot h n (k + 1) v) t.nothing ≡ so_far t h n arcs s price k v (i + 1)
          here v w = ⊎_elim (same v w) (differs v w) (cases_eq (h.far (arc_at arcs i)) v)

          rest : (m v : ℕ) → k + 1 < m → m ≤ n → v < 32 → get_or (stepped out) (spot h n m v) t.nothing ≡ t.nothing
          rest m v a b d = other m v b d (λ e. omega (arith, e.0)) ∙ r.rest m v a b d

-- what is below the end holds x, and what is past it is x by default
pub all_alike : {A : Type 0} (out : List A) (x : A) → ((q : ℕ) → q < length out → get_or out q x ≡ x) → (q : ℕ) → get_or out q x ≡ x
all_alike out x h q = ⊎_elim (h q) (get_or_past out q x) (cases_lt q (length out))
