-- The amounts of a backward sweep, level by level. Assumes nothing.
use Rattle.std.proofs.Common.{◌≡◌, ℕ, zero, suc, ◌+◌, ◌-◌, ◌*◌, ◌<◌, ◌≤◌, Bool, true, false, ◌&&◌, eqb, ltb, List, [], ◌∷◌, ◌++◌, length, get_or, take, set, ℤ, nat_abs, sym, refl, ap, ◌∙◌, subst, ⊎_elim, arith}
use Rattle.std.proofs.lemmas.List.{get_or_read, take_more_set, append_assoc, append-nil}
use Rattle.std.proofs.lemmas.Bool.{lt-ltb, and_parts}
use Rattle.terms.specs.declared.arc.Arc.{Arc}
use Rattle.plans.specs.Arcs.{arc_at, Sealed}
use Rattle.plans.specs.Plans.{next, Path, Node}
use Rattle.plans.specs.Cases.{Case, stands}
use Rattle.plans.proofs.Steps.{next_there, next_place}
use Rattle.tallies.specs.Laws.{wide, steep}
use Rattle.ways.specs.Amounts.{along_back, backward_amount, entry, Backward}
use Rattle.ways.specs.Ways.{takes, way_amount}
use Rattle.ways.specs.Directions.{backward}
use Rattle.ways.specs.Traces.{Attains, Smallest, Traced, Completes, Attaining}
use Rattle.tallies.specs.declared.tally.Tally.{Ghosts}
use Rattle.ways.proofs.Sums.{Lawful, through, way_narrow, neutral_right}
use Rattle.ways.proofs.Turns.{backward_way}
use Rattle.ways.proofs.Picks.{Chooses, absorbed, some_part}

-- the root is a node, and the node at which an arc from a node ends is one
pub root_node : (n : ℕ) (arcs : List Arc) → Sealed n arcs → Node n 1 0
root_node n arcs sealed = record { low = omega arith; high = omega (arith, sealed.some); below = omega arith; root = λ _. refl; end = λ _. refl }

pub end_node : (n : ℕ) (arcs : List Arc) → Sealed n arcs → (k v i : ℕ) → 1 ≤ k → next arcs k v i ≡ true → Node n (suc k) (arc_at arcs i).end
end_node n arcs sealed k v i low e =
    let l = next_there arcs k v i e in
    let at = next_place arcs k v i e in
    let x = sealed.arc i l in
    let high = x.placed.1 in
    record {
      low = omega arith;
      high = omega (arith, high, at);
      below = x.noded.1;
      root = λ q. absurd (omega arith);
      end = λ q. x.ended (omega (arith, at, q));
    }

module _ {X A : Type 0} (t : Ghosts X A) (laws : Lawful t) (n : ℕ) (arcs : List Arc) (sealed : Sealed n arcs) (s : Case) (price : ℕ → ℤ) (small : (a : ℕ) → nat_abs (price a) ≤ steep) where
  abbrev amount : ℕ → ℕ → A
  amount k v = backward_amount t n arcs s price k v

  -- the amount of the partial plans that begin with arc i of place k
  abbrev pub after : ℕ → ℕ → A
  after k i = t.extends (amount (suc k) (arc_at arcs i).end) (price i)

  pub amount_narrow : (k v : ℕ) → Node n k v → t.size (amount k v) < wide
  amount_narrow k v node =
      let low = node.low in
      let few = sealed.few in
      subst (λ a. t.size a < wide) (sym (backward_way t price n arcs s sealed k v node)) (way_narrow t laws backward n arcs s price small (suc n - k) v (omega arith))

  -- what stands in a filled table at the entry of a node
  pub read_table : (table : List A) (k v q : ℕ) (x : A) → Backward t n arcs s price table → length table ≡ 1056 → Node n k v → q ≡ entry k v → x ≡ get_or table q x → x ≡ amount k v
  read_table table k v q x filled long node at read =
      let low = node.low in
      let high = node.high in
      let below = node.below in
      let few = sealed.few in
      get_or_read table q x (omega arith) read t.nothing ∙ ap (λ m. get_or table m t.nothing) at ∙ filled k v node

  -- and where an arc of place k ends
  pub read_beyond : (table : List A) (k v i q : ℕ) (x : A) → Backward t n arcs s price table → length table ≡ 1056 → 1 ≤ k → next arcs k v i ≡ true → q ≡ 32 * k + (arc_at arcs i).end → x ≡ get_or table q x → x ≡ amount (suc k) (arc_at arcs i).end
  read_beyond table k v i q x filled long low goes at read =
      read_table table (suc k) (arc_at arcs i).end q x filled long (end_node n arcs sealed k v i low goes) (omega arith) read

  -- an arc from a node of level k, as a sweep takes it
  regroup : (x l p v : Bool) → l ≡ true → (x && (l && (p && v))) ≡ ((x && p) && v)
  regroup true true p v e = refl
  regroup false l p v e = refl
  regroup true false p v e = let z : ◌≡◌ {A = ℕ} 0 1 = cc in absurd (omega arith)

  test_same : (k v i : ℕ) → k ≤ n → i < length arcs → (s i && next arcs k v i) ≡ (takes backward n arcs s (n - k) i && eqb (arc_at arcs i).start v)
  test_same k v i high l =
      let at : k ≡ n - (n - k) = omega arith in
      regroup (s i) (ltb i (length arcs)) (eqb (arc_at arcs i).place k) (eqb (arc_at arcs i).start v) (lt-ltb i (length arcs) l)
      ∙ ap (λ m. (s i && eqb (arc_at arcs i).place m) && eqb (arc_at arcs i).start v) at

  after_same : (k v i : ℕ) → 1 ≤ k → next arcs k v i ≡ true → after k i ≡ through t backward n arcs s price (n - k) i
  after_same k v i low e =
      let down : suc n - suc k ≡ n - k = omega arith in
      ap (λ a. t.extends a (price i)) (backward_way t price n arcs s sealed (suc k) (arc_at arcs i).end (end_node n arcs sealed k v i low e) ∙ ap (λ m. way_amount t backward n arcs s price m (arc_at arcs i).end) down)

  amount_same : (k v : ℕ) → Node n k v → k ≤ n → amount k v ≡ way_amount t backward n arcs s price (suc (n - k)) v
  amount_same k v node high =
      let up : suc n - k ≡ suc (n - k) = omega arith in
      backward_way t price n arcs s sealed k v node ∙ ap (λ m. way_amount t backward n arcs s price m v) up

  module _ (chooses : Chooses t) (k v : ℕ) (node : Node n k v) (high : k ≤ n) where
    narrow : n - k < 32
    narrow = omega (arith, node.low, sealed.few)

    -- an amount takes in those of the arcs from its node
    pub taken : (i : ℕ) → (s i && next arcs k v i) ≡ true → t.joins (after k i) (amount k v) ≡ amount k v
    taken i e =
        let goes = (and_parts (s i) (next arcs k v i) e).1 in
        let l = next_there arcs k v i goes in
        let a = absorbed t laws chooses backward n arcs s price small (n - k) v narrow i (sym (test_same k v i high l) ∙ e) (length arcs) l in
        let b = after_same k v i node.low goes in
        let c = amount_same k v node high in
        ap (λ x. t.joins x (amount k v)) b ∙ ap (t.joins (through t backward n arcs s price (n - k) i)) c ∙ a ∙ sym c

    -- what a choice between an arc's amount and the node's tells
    pub attains_yes : (i : ℕ) → (s i && next arcs k v i) ≡ true → t.joins (after k i) (amount k v) ≡ after k i → after k i ≡ amount k v
    attains_yes i e p = sym p ∙ taken i e

    pub attains_no : (i : ℕ) → (s i && next arcs k v i) ≡ true → after k i ≡ amount k v → t.joins (after k i) (amount k v) ≡ after k i
    attains_no i e p = taken i e ∙ sym p

    -- an amount that is not "no plan" is attained
    pub attained : (amount k v ≡ t.nothing → ⊥) → (i : ℕ) × ((i < length arcs) × Attains t n arcs s price k v i)
    attained some =
        ⊎_elim (λ z. absurd (some (amount_same k v node high ∙ z))) (λ r.
        let i = r.0 in
        let l = r.1.0 in
        let e = test_same k v i high l ∙ r.1.1.0 in
        let goes = (and_parts (s i) (next arcs k v i) e).1 in
        (i, (l, (e, after_same k v i node.low goes ∙ r.1.1.1 ∙ sym (amount_same k v node high))))) (some_part t laws chooses backward n arcs s price small (n - k) v narrow (length arcs))

  -- an arc that attains an amount ends where an amount is
  pub amount_left : (k v i : ℕ) → Attains t n arcs s price k v i → (amount k v ≡ t.nothing → ⊥) → amount (suc k) (arc_at arcs i).end ≡ t.nothing → ⊥
  amount_left k v i (_, e) some none =
      some (sym e ∙ ap (λ a. t.extends a (price i)) none ∙ laws.absorbs (price i) (omega (arith, small i)))

  pub completes_more : (plan : List ℕ) (j i k v : ℕ) → j < length plan → Smallest t n arcs s price k v i → Completes t n arcs s price (take j plan) k v → Completes t n arcs s price (take (j + 1) (set plan j i)) (suc k) (arc_at arcs i).end
  completes_more plan j i k v l picked before p h =
      subst (Traced t n arcs s price 1 0) (sym (ap (λ xs. xs ++ p) (take_more_set plan j i l) ∙ append_assoc (take j plan) (i ∷ []) p)) (before (i ∷ p) (picked, h))

  pub completes_all : (plan : List ℕ) (j k v : ℕ) → k ≡ suc n → Completes t n arcs s price (take j plan) k v → Traced t n arcs s price 1 0 (take j plan)
  completes_all plan j k v e h = subst (Traced t n arcs s price 1 0) (append-nil (take j plan)) (h [] e)

  -- a trace is a partial plan to the end that stands and attains the amount
  pub record Reached (k v : ℕ) (p : List ℕ) : Type 0 where
    pub long : k + length p ≡ suc n
    pub path : Path arcs k v p
    pub all : stands s p ≡ true
    pub amount : along_back t price p ≡ backward_amount t n arcs s price k v

  pub traced_reaches : (p : List ℕ) (k v : ℕ) → Node n k v → Traced t n arcs s price k v p → Reached k v p
  traced_reaches [] k v node e = record {
    long = omega (arith, e);
    path = tt;
    all = refl;
    amount = sym (backward_way t price n arcs s sealed k v node ∙ last (suc n - k) v (omega (arith, e)) (node.end e));
  }
    where
      last : (j v : ℕ) → j ≡ 0 → v ≡ 0 → way_amount t backward n arcs s price j v ≡ t.start
      last zero zero _ _ = neutral_right t laws t.start
      last zero (suc v) _ z = absurd (omega arith)
      last (suc j) v z _ = absurd (omega arith)
  traced_reaches (i ∷ p) k v node (pick, rest) =
      let at = pick.0 in
      let both = and_parts (s i) (next arcs k v i) at.0 in
      let r = traced_reaches p (suc k) (arc_at arcs i).end (end_node n arcs sealed k v i node.low both.1) rest in
      record {
        long = omega (arith, r.long);
        path = (both.1, r.path);
        all = rw both.0 r.all;
        amount = ap (λ a. t.extends a (price i)) r.amount ∙ at.1;
      }

  pub traced_attains : (p : List ℕ) → Traced t n arcs s price 1 0 p → Attaining t n arcs s price p
  traced_attains p h =
      let r = traced_reaches p 1 0 (root_node n arcs sealed) h in
      record { stands = record { plan = record { long = omega (arith, r.long); path = r.path }; all = r.all }; amount = r.amount }
