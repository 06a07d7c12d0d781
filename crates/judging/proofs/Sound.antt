-- What holds after any calls: the plan held is lawful, and every lawful plan that costs less than the claim stands in an
-- open case. Assumes nothing.
use Rattle.std.proofs.Common.{◌≡◌, ℕ, suc, ◌<◌, ◌≤◌, Bool, true, false, cond, not, ◌&&◌, ◌||◌, eqb, ◌⊎◌, List, [], ◌∷◌, length, ℤ, ◌≤ℤ◌, ◌<ℤ◌, Some, None, sym, refl, ◌∙◌, subst, inl, inr, arith}
use lib.Signed.{lt_z}
use Rattle.std.proofs.lemmas.Int.{ints}
use Rattle.std.proofs.lemmas.Bool.{and_parts, and_from, or_cases, or_left, or_right, cases_Bool, cases_eq, true≢false, ne_eqb, not_from_false, lt-ltb, ltb-false}
use Rattle.terms.specs.declared.arc.Arc.{Arc}
use Rattle.terms.specs.declared.refusal.Refusal.TheVariants.{ClaimRange, NoCase, OneSided, NotClosed}
use Rattle.terms.specs.Routes.{in_set}
use Rattle.plans.specs.Arcs.{arc_at}
use Rattle.plans.specs.Plans.{Path, In}
use Rattle.plans.specs.Cases.{Case, every, stands, on_some, kept}
use Rattle.plans.specs.Firsts.{amount_in}
use Rattle.plans.proofs.Whole.{lt_lt_z, lt_z_false}
use Rattle.plans.proofs.Steps.{next_there, next_place}
use Rattle.plans.proofs.Members.{those_in}
use Rattle.plans.proofs.Standing.{on_some_lem, stands_each, stands_all, stands_in, cheapest_least}
use Rattle.rules.specs.Lawful.{Problem, Lawful, cost_of}
use Rattle.amounts.specs.Amounts.{amount}
use Rattle.judging.specs.Cases.{Model, opened, mark, standing_in, inside, outside, top, under, none_open, piled}
use Rattle.judging.specs.Calls.{multiplier_rows, no_case, lent, claim_rows, claim_done, price_rows, sample_rows, keeping, below, cheaply, strike_rows, on_strike, trim_rows, wrong_place, empty_side, split_rows, split_done, on_split, undercut, not_closed, close_rows, close_done, offer_rows, offer_done, Call, claim, price, sample, strike, trim, split, close, offer, verdict, after, run}
use Rattle.judging.specs.Theorem.{Sized}
use Rattle.judging.proofs.Rows.{decided_both, or_none, when_none, naming_none, multipliers_fair, offer_lawful}
use Rattle.judging.proofs.Marks.{below_mark}
use Rattle.judging.proofs.Sizes.{sized_top, size_most, size_within, split_sizes}

-- whether a plan stands in some case
abbrev pub covered : List Case → List ℕ → Bool
covered [] p = false
covered (s ∷ rest) p = stands s p || covered rest p

pub record Safe (t : Problem) (m : Model) : Type 0 where
  pub claim : m.claimed ≤ 1000000
  pub held : (p : List ℕ) → m.held ≡ Some p → Lawful t p
  pub cover : (p : List ℕ) → Lawful t p → cost_of t p < m.claimed → covered m.pile p ≡ true
  pub sized : Sized (length t.arcs) m.pile

-- every plan stands in the case with every arc
pub path_every : (arcs : List Arc) (k v : ℕ) (p : List ℕ) → Path arcs k v p → stands (every arcs) p ≡ true
path_every arcs k v [] h = refl
path_every arcs k v (a ∷ p) h = and_from _ _ (lt-ltb a (length arcs) (next_there arcs k v a h.0)) (path_every arcs (suc k) (arc_at arcs a).end p h.1)

-- a plan of a list stands in what is kept for the list
pub kept_stands : (s : Case) (ps : List (List ℕ)) (p : List ℕ) → In p ps → stands s p ≡ true → stands (kept ps s) p ≡ true
kept_stands s ps p m h = stands_all (kept ps s) p (λ a k. and_from (s a) (on_some ps a) (stands_each s p a h k) (on_some_lem p a ps m k))

module _ (arcs : List Arc) (k routes : ℕ) (s : Case) where
  off : (a : ℕ) (x : Bool) → ((arc_at arcs a).place ≡ k → ⊥) → s a ≡ true → (s a && (not (eqb (arc_at arcs a).place k) || x)) ≡ true
  off a x ne h = and_from (s a) _ h (or_left _ x (not_from_false _ (ne_eqb (arc_at arcs a).place k ne)))

  past : (j v : ℕ) (p : List ℕ) → k < j → Path arcs j v p → stands s p ≡ true → (stands (inside arcs k routes s) p ≡ true) × (stands (outside arcs k routes s) p ≡ true)
  past j v [] l h e = (refl, refl)
  past j v (a ∷ p) l h e =
      let w = and_parts (s a) (stands s p) e in
      let r = past (suc j) (arc_at arcs a).end p (omega arith) h.1 w.1 in
      let ne : (arc_at arcs a).place ≡ k → ⊥ = λ q. omega (arith, next_place arcs j v a h.0) in
      (and_from _ _ (off a _ ne w.0) r.0, and_from _ _ (off a _ ne w.0) r.1)

  -- a plan of a case stands on one side of a split
  pub sides : (j v : ℕ) (p : List ℕ) → Path arcs j v p → stands s p ≡ true → (stands (inside arcs k routes s) p ≡ true) ⊎ (stands (outside arcs k routes s) p ≡ true)
  sides j v [] h e = inl refl
  sides j v (a ∷ p) h e =
      let w = and_parts (s a) (stands s p) e in
      elim (cases_eq j k) [
        | inl q ↦
            let r = past (suc j) (arc_at arcs a).end p (omega arith) h.1 w.1 in
            elim (cases_Bool (in_set routes (arc_at arcs a).route)) [
              | inl y ↦ inl (and_from _ _ (and_from (s a) _ w.0 (or_right _ _ y)) r.0)
              | inr y ↦ inr (and_from _ _ (and_from (s a) _ w.0 (or_right _ _ (not_from_false _ y))) r.1)
            ]
        | inr q ↦
            let ne : (arc_at arcs a).place ≡ k → ⊥ = λ x. q (sym (next_place arcs j v a h.0) ∙ x) in
            elim (sides (suc j) (arc_at arcs a).end p h.1 w.1) [
              | inl r ↦ inl (and_from _ _ (off a _ ne w.0) r)
              | inr r ↦ inr (and_from _ _ (off a _ ne w.0) r)
            ]
      ]

-- a plan that stands in some case stands in the working case, or in one under it
cover_top : (cs : List Case) (p : List ℕ) → covered cs p ≡ true → (stands (top cs) p ≡ true) ⊎ (covered (under cs) p ≡ true)
cover_top [] p h = absurd (true≢false (sym h))
cover_top (w ∷ rest) p h = or_cases (stands w p) (covered rest p) h

-- a least amount that does not undercut
pub undercut_none : (v w : ℤ) → undercut v (Some w) ≡ None → v ≤ℤ w
undercut_none v w h = lt_z_false w v (by (lt_z w v) h)
  where
    by : (b : Bool) → cond b (Some w) None ≡ None → b ≡ false
    by true e = let z : ◌≡◌ {A = ℕ} 0 1 = cc in absurd (omega arith)
    by false e = refl

module _ (t : Problem) (small : length t.arcs ≤ 1024) where
  lawful_listed : (s : Case) (p : List ℕ) → Lawful t p → stands s p ≡ true → In p (standing_in t s)
  lawful_listed s p l h = stands_in t.places t.arcs s p (record { plan = l.plan; all = h })

  fresh : (k : ℕ) (m : Model) → Safe t m → k ≤ 1000000 → Safe t (record { claimed = k; pile = every t.arcs ∷ []; held = m.held })
  fresh k m s h = record {
    claim = h;
    held = s.held;
    cover = λ p l _. or_left _ false (path_every t.arcs 1 0 p l.plan.path);
    sized = (omega (arith, size_most (every t.arcs) (length t.arcs)), tt);
  }

  pub opened_safe : Safe t (opened t)
  opened_safe = record {
    claim = omega arith;
    held = λ p e. let z : ◌≡◌ {A = ℕ} 0 1 = cc in absurd (omega arith);
    cover = λ p l _. or_left _ false (path_every t.arcs 1 0 p l.plan.path);
    sized = (omega (arith, size_most (every t.arcs) (length t.arcs)), tt);
  }

  -- strike and trim
  narrow : (m : Model) (ps : List (List ℕ)) → Safe t m → none_open m.pile ≡ false → ((p : List ℕ) → Lawful t p → cost_of t p < m.claimed → stands (top m.pile) p ≡ true → In p ps) → Safe t (piled m (kept ps (top m.pile) ∷ under m.pile))
  narrow m ps s o h =
      let z = sized_top (length t.arcs) m.pile o s.sized in
      record {
        claim = s.claim;
        held = s.held;
        cover = λ p l c. elim (cover_top m.pile p (s.cover p l c)) [
          | inl w ↦ or_left _ _ (kept_stands (top m.pile) ps p (h p l c w) w)
          | inr w ↦ or_right _ _ w
        ];
        sized = (omega (arith, z.0, size_within (kept ps (top m.pile)) (top m.pile) (length t.arcs) (λ a e. (and_parts (top m.pile a) _ e).0)), z.1);
      }

  strike_safe : (m : Model) (zs : List ℤ) → Safe t m → Safe t (on_strike t m zs).left
  strike_safe m zs s = decided_both (Safe t) m (strike_rows t m zs) (keeping t m (cheaply t m zs)) s (λ e.
      let r = or_none (multiplier_rows t zs) _ e in
      let o = or_none (no_case m) None r.1 in
      narrow m (cheaply t m zs) s (when_none _ NoCase o.0) (λ p l c w.
      those_in (below t zs m.claimed) p (standing_in t (top m.pile))
      (lt_lt_z (amount t zs p) (mark m.claimed) (below_mark t zs p m.claimed (multipliers_fair t zs r.0) l c))
      (lawful_listed (top m.pile) p l w)))

  close_safe : (m : Model) (zs : List ℤ) → Safe t m → close_rows t m zs ≡ None → Safe t (piled m (under m.pile))
  close_safe m zs s e =
      let r = or_none (multiplier_rows t zs) _ e in
      let o = or_none (no_case m) _ r.1 in
      let u = or_none (not_closed t m zs) None o.1 in
      let z = sized_top (length t.arcs) m.pile (when_none _ NoCase o.0) s.sized in
      record {
        claim = s.claim;
        held = s.held;
        cover = λ p l c. elim (cover_top m.pile p (s.cover p l c)) [
          | inl w ↦
              let q = cheapest_least (amount t zs) p (standing_in t (top m.pile)) (lawful_listed (top m.pile) p l w) in
              let g : undercut (mark m.claimed) (Some (amount t zs q.0)) ≡ None = subst (λ x. undercut (mark m.claimed) (amount_in (amount t zs) x) ≡ None) q.1.0 (naming_none NotClosed _ u.0) in
              absurd (clash (mark m.claimed) (amount t zs q.0) (amount t zs p) (undercut_none _ _ g) q.1.1 (below_mark t zs p m.claimed (multipliers_fair t zs r.0) l c))
          | inr w ↦ w
        ];
        sized = z.1;
      }
    where
      clash : (x y z : ℤ) → x ≤ℤ y → y ≤ℤ z → z <ℤ x → ⊥
      clash x y z h k l = omega (arith, ints)

  split_safe : (m : Model) (k routes : ℕ) → Safe t m → Safe t (on_split t m k routes).left
  split_safe m k routes s = decided_both (Safe t) m (split_rows t m k routes) (split_done t m k routes) s (λ e.
      let w = top m.pile in
      let r = or_none (no_case m) _ e in
      let q = or_none (wrong_place t k) _ r.1 in
      let u = or_none (empty_side t m k routes) _ q.1 in
      let z = sized_top (length t.arcs) m.pile (when_none _ NoCase r.0) s.sized in
      let l = split_sizes t.arcs k routes w (when_none _ OneSided u.0) in
      record {
        claim = s.claim;
        held = s.held;
        cover = λ p a c. elim (cover_top m.pile p (s.cover p a c)) [
          | inl y ↦ elim (sides t.arcs k routes w 1 0 p a.plan.path y) [
            | inl x ↦ or_left _ _ x
            | inr x ↦ or_right _ _ (or_left _ _ x)
          ]
          | inr y ↦ or_right (stands (inside t.arcs k routes w) p) _ (or_right (stands (outside t.arcs k routes w) p) _ y)
        ];
        sized = (omega (arith, z.0, l.0), (omega (arith, z.0, l.1), z.1));
      })

  -- each call keeps it so
  pub after_safe : (m : Model) (c : Call) → Safe t m → Safe t (after t m c)
  after_safe m (claim k) s = decided_both (Safe t) m (claim_rows k) (claim_done t m k) s (λ e. fresh k m s (ltb-false 1000000 k (when_none _ ClaimRange e)))
  after_safe m (price zs room) s = decided_both (λ x. Safe t x.model) (lent m room) (price_rows t m zs room) _ s (λ _. s)
  after_safe m (sample room) s = decided_both (λ x. Safe t x.model) (lent m room) (sample_rows t m room) _ s (λ _. s)
  after_safe m (strike zs) s = strike_safe m zs s
  after_safe m trim s = decided_both (Safe t) m (trim_rows m) (keeping t m (standing_in t (top m.pile))) s (λ e.
      narrow m (standing_in t (top m.pile)) s (when_none _ NoCase e) (λ p l c w. lawful_listed (top m.pile) p l w))
  after_safe m (split k routes) s = split_safe m k routes s
  after_safe m (close zs) s = decided_both (Safe t) m (close_rows t m zs) (close_done m) s (close_safe m zs s)
  after_safe m (offer p) s = decided_both (Safe t) m (offer_rows t m p) (offer_done t m p) s (λ e.
      record { claim = s.claim; held = λ q x. let y : p ≡ q = cc in subst (Lawful t) y (offer_lawful t m p e); cover = s.cover; sized = s.sized })
  after_safe m verdict s = s

  -- and so does every list of calls
  pub run_safe : (cs : List Call) (m : Model) → Safe t m → Safe t (run t cs m)
  run_safe [] m s = s
  run_safe (c ∷ cs) m s = run_safe cs (after t m c) (after_safe m c s)
