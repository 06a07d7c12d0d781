-- What each verdict tells of a casebook after any calls, and how a false claim is refuted. Assumes nothing.
use Rattle.std.proofs.Common.{◌≡◌, ℕ, suc, ◌<◌, ◌≤◌, Bool, true, false, cond, not, eqb, ltb, ◌⊎◌, List, [], ◌∷◌, length, Some, None, Option, sym, refl, ap, ◌∙◌, inl, inr, arith}
use Rattle.std.proofs.lemmas.Bool.{cases_lt, true≢false, both_ways, lt-ltb, le-ltb, lt-leb, ltb-true, eqb-true, eq-eqb}
use Rattle.terms.specs.declared.arc.Arc.{Arc}
use Rattle.terms.specs.declared.verdict.Verdict.{Verdict}
use Rattle.terms.specs.declared.verdict.Verdict.TheVariants.{Open, Proved, Best, Refuted}
use Rattle.terms.specs.declared.refusal.Refusal.TheVariants.{TooManyRules, OfferLength, NotConnected, BreaksRule, NotCheaper}
use Rattle.terms.specs.Refusals.{when, naming, Outcome}
use Rattle.plans.specs.Arcs.{arc_at}
use Rattle.plans.specs.Plans.{Path}
use Rattle.plans.specs.Cases.{Case}
use Rattle.rules.specs.Lawful.{Problem, Lawful, cost_of}
use Rattle.judging.specs.Cases.{Model, none_open}
use Rattle.judging.specs.Calls.{stray, no_cheaper, offer_rows, offer_done, judged, verdict_of, after, offer}
use Rattle.judging.specs.Theorem.{NoneUnder, Confirmed, Holds}
use Rattle.judging.proofs.Rows.{none_or, decided_done, holding_none}
use Rattle.judging.proofs.Sound.{Safe, covered}

module _ (t : Problem) (m : Model) where
  -- what a verdict that is proved or best tells of the pile
  none_proved : (b : Bool) → (cond b Proved Open ≡ Proved) ⊎ (cond b Proved Open ≡ Best) → b ≡ true
  none_proved true h = refl
  none_proved false (inl e) = let z : ◌≡◌ {A = ℕ} 0 1 = cc in absurd (omega arith)
  none_proved false (inr e) = let z : ◌≡◌ {A = ℕ} 0 1 = cc in absurd (omega arith)

  held_proved : (a b c : Bool) → (cond a Refuted (cond b (cond c Best Proved) Open) ≡ Proved) ⊎ (cond a Refuted (cond b (cond c Best Proved) Open) ≡ Best) → b ≡ true
  held_proved true b c (inl e) = let z : ◌≡◌ {A = ℕ} 0 1 = cc in absurd (omega arith)
  held_proved true b c (inr e) = let z : ◌≡◌ {A = ℕ} 0 1 = cc in absurd (omega arith)
  held_proved false true c h = refl
  held_proved false false c (inl e) = let z : ◌≡◌ {A = ℕ} 0 1 = cc in absurd (omega arith)
  held_proved false false c (inr e) = let z : ◌≡◌ {A = ℕ} 0 1 = cc in absurd (omega arith)

  none_open_lem : (o : Option (List ℕ)) → (judged t m o ≡ Proved) ⊎ (judged t m o ≡ Best) → none_open m.pile ≡ true
  none_open_lem None h = none_proved (none_open m.pile) h
  none_open_lem (Some p) h = held_proved (ltb (cost_of t p) m.claimed) (none_open m.pile) (eqb (cost_of t p) m.claimed) h

  -- with no case open no plan is covered, so none is lawful and cheaper than the claim
  none_covers : (cs : List Case) (p : List ℕ) → none_open cs ≡ true → covered cs p ≡ false
  none_covers [] p h = refl
  none_covers (w ∷ rest) p h = absurd (true≢false (sym h))

  pub confirmed : Safe t m → Confirmed t m → NoneUnder t m.claimed
  confirmed s h p l =
      elim (cases_lt (cost_of t p) m.claimed) [
        | inl c ↦ absurd (both_ways (covered m.pile p) (none_covers m.pile p (none_open_lem m.held h)) (s.cover p l c))
        | inr g ↦ g
      ]

  -- what the verdicts best and refuted tell of the plan held
  none_best : (b : Bool) → cond b Proved Open ≡ Best → ⊥
  none_best true e = let z : ◌≡◌ {A = ℕ} 0 1 = cc in absurd (omega arith)
  none_best false e = let z : ◌≡◌ {A = ℕ} 0 1 = cc in absurd (omega arith)

  none_refuted : (b : Bool) → cond b Proved Open ≡ Refuted → ⊥
  none_refuted true e = let z : ◌≡◌ {A = ℕ} 0 1 = cc in absurd (omega arith)
  none_refuted false e = let z : ◌≡◌ {A = ℕ} 0 1 = cc in absurd (omega arith)

  held_best : (a b c : Bool) → cond a Refuted (cond b (cond c Best Proved) Open) ≡ Best → c ≡ true
  held_best true b c e = let z : ◌≡◌ {A = ℕ} 0 1 = cc in absurd (omega arith)
  held_best false true true e = refl
  held_best false true false e = let z : ◌≡◌ {A = ℕ} 0 1 = cc in absurd (omega arith)
  held_best false false c e = let z : ◌≡◌ {A = ℕ} 0 1 = cc in absurd (omega arith)

  held_refuted : (a b c : Bool) → cond a Refuted (cond b (cond c Best Proved) Open) ≡ Refuted → a ≡ true
  held_refuted true b c e = refl
  held_refuted false true true e = let z : ◌≡◌ {A = ℕ} 0 1 = cc in absurd (omega arith)
  held_refuted false true false e = let z : ◌≡◌ {A = ℕ} 0 1 = cc in absurd (omega arith)
  held_refuted false false c e = let z : ◌≡◌ {A = ℕ} 0 1 = cc in absurd (omega arith)

  best_of : (o : Option (List ℕ)) → judged t m o ≡ Best → (p : List ℕ) × ((o ≡ Some p) × (cost_of t p ≡ m.claimed))
  best_of None h = absurd (none_best (none_open m.pile) h)
  best_of (Some p) h = (p, (refl, eqb-true _ _ (held_best (ltb (cost_of t p) m.claimed) (none_open m.pile) (eqb (cost_of t p) m.claimed) h)))

  refuted_of : (o : Option (List ℕ)) → judged t m o ≡ Refuted → (p : List ℕ) × ((o ≡ Some p) × (cost_of t p < m.claimed))
  refuted_of None h = absurd (none_refuted (none_open m.pile) h)
  refuted_of (Some p) h = (p, (refl, ltb-true _ _ (held_refuted (ltb (cost_of t p) m.claimed) (none_open m.pile) (eqb (cost_of t p) m.claimed) h)))

  pub best : Safe t m → verdict_of t m ≡ Best → Holds t m (λ c. c ≡ m.claimed)
  best s h = let r = best_of m.held h in (r.0, (r.1.0, (s.held r.0 r.1.0, r.1.1)))

  pub refuted : Safe t m → verdict_of t m ≡ Refuted → Holds t m (λ c. c < m.claimed)
  refuted s h = let r = refuted_of m.held h in (r.0, (r.1.0, (s.held r.0 r.1.0, r.1.1)))

-- a lawful plan meets no row but the last
path_stray : (arcs : List Arc) (k v : ℕ) (p : List ℕ) → Path arcs k v p → stray arcs k v p ≡ None
path_stray arcs k v [] h = refl
path_stray arcs k v (a ∷ p) h = rw h.0 (path_stray arcs (suc k) (arc_at arcs a).end p h.1)

-- so its offer is refused by none of them
offer_open : (t : Problem) (m : Model) (p : List ℕ) → length t.rules ≤ 128 → Lawful t p → no_cheaper t m.held p ≡ false → offer_rows t m p ≡ None
offer_open t m p few l h =
    none_or _ _ (ap (λ (b : Bool). when b TooManyRules) (le-ltb 128 (length t.rules) few))
    (none_or _ _ (ap (λ (b : Bool). when (not b) OfferLength) (eq-eqb (length p) t.places l.plan.long))
    (none_or _ _ (ap (λ (o : Option ℕ). naming NotConnected o) (path_stray t.arcs 1 0 p l.plan.path))
    (none_or _ _ (ap (λ (o : Option ℕ). naming BreaksRule o) (holding_none t.arcs p t.rules l.allowed))
    (none_or _ _ (ap (λ (b : Bool). when b NotCheaper) h) refl))))

-- so the offer of a lawful plan cheaper than the claim refutes it, unless the plan held does
pub refutable : (t : Problem) (m : Model) → length t.rules ≤ 128 → (p : List ℕ) → Lawful t p → cost_of t p < m.claimed → (verdict_of t m ≡ Refuted) ⊎ (verdict_of t (after t m (offer p)) ≡ Refuted)
refutable t m few p l c =
    elim (by m.held) [
      | inl h ↦ inl h
      | inr h ↦ inr (ap (λ (o : Outcome Model ℕ). verdict_of t o.left) (decided_done m (offer_rows t m p) (offer_done t m p) (offer_open t m p few l h))
          ∙ under (ltb (cost_of t p) m.claimed) _ (lt-ltb (cost_of t p) m.claimed c))
    ]
  where
    under : (b : Bool) (v : Verdict) → b ≡ true → cond b Refuted v ≡ Refuted
    under true v e = refl
    under false v e = absurd (true≢false (sym e))

    by : (o : Option (List ℕ)) → (judged t m o ≡ Refuted) ⊎ (no_cheaper t o p ≡ false)
    by None = inr refl
    by (Some q) = elim (cases_lt (cost_of t q) m.claimed) [
      | inl k ↦ inl (under (ltb (cost_of t q) m.claimed) _ (lt-ltb (cost_of t q) m.claimed k))
      | inr k ↦ inr (lt-leb (cost_of t q) (cost_of t p) (omega arith))
    ]
