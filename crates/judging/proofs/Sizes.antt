-- How many arcs a case has; a case with h cases under it has at most 1,024 - h. Assumes nothing.
use Rattle.std.proofs.Common.{◌≡◌, ℕ, zero, suc, ◌+◌, ◌<◌, ◌≤◌, Bool, true, false, cond, not, ◌||◌, eqb, List, [], ◌∷◌, length, sym, refl, ap, ◌∙◌, inl, inr, arith}
use Rattle.terms.specs.declared.arc.Arc.{Arc}
use Rattle.std.proofs.lemmas.Bool.{and_parts, and_right, or_cases, or_left, or_right, cases_Bool, cases_eq, true≢false, both_ways, not-true, not-false, not_from_true}
use Rattle.plans.specs.Arcs.{arc_at}
use Rattle.plans.specs.Cases.{Case, size, any}
use Rattle.judging.specs.Cases.{at_place, inside, outside, top, under, none_open}
use Rattle.judging.specs.Calls.{one_sided}
use Rattle.judging.specs.Theorem.{Sized}

-- a case with an arc has one
pub any_in : (s : Case) (n a : ℕ) → a < n → s a ≡ true → any s n ≡ true
any_in s zero a h e = absurd (omega arith)
any_in s (suc n) a h e =
    elim (cases_eq a n) [
      | inl q ↦ or_left (s n) (any s n) (ap s (sym q) ∙ e)
      | inr q ↦ or_right (s n) (any s n) (any_in s n a (omega arith) e)
    ]

-- a case that has one: that arc
pub any_out : (s : Case) (n : ℕ) → any s n ≡ true → (a : ℕ) × ((a < n) × (s a ≡ true))
any_out s zero h = absurd (true≢false (sym h))
any_out s (suc n) h =
    elim (or_cases (s n) (any s n) h) [
      | inl e ↦ (n, (omega arith, e))
      | inr e ↦ let r = any_out s n e in (r.0, (omega (arith, r.1.0), r.1.1))
    ]

-- a case that has none
pub none_in : (s : Case) (n a : ℕ) → any s n ≡ false → a < n → s a ≡ false
none_in s n a h l = elim (cases_Bool (s a)) [ inl e ↦ absurd (both_ways (any s n) h (any_in s n a l e)) | inr e ↦ e ]

count_step : (x y : Bool) (i j : ℕ) → (x ≡ true → y ≡ true) → i ≤ j → cond x (suc i) i ≤ cond y (suc j) j
count_step true true i j f l = omega arith
count_step true false i j f l = absurd (true≢false (sym (f refl)))
count_step false true i j f l = omega arith
count_step false false i j f l = l

less_step : (x y : Bool) (i j : ℕ) → (x ≡ true → y ≡ true) → i < j → cond x (suc i) i < cond y (suc j) j
less_step true true i j f l = omega arith
less_step true false i j f l = absurd (true≢false (sym (f refl)))
less_step false true i j f l = omega arith
less_step false false i j f l = l

less_here : (x y : Bool) (i j : ℕ) → x ≡ false → y ≡ true → i ≤ j → cond x (suc i) i < cond y (suc j) j
less_here true y i j p q l = absurd (true≢false p)
less_here false true i j p q l = omega arith
less_here false false i j p q l = absurd (true≢false (sym q))

-- a case within another has at most as many arcs
pub size_within : (s r : Case) (n : ℕ) → ((a : ℕ) → s a ≡ true → r a ≡ true) → size s n ≤ size r n
size_within s r zero h = omega arith
size_within s r (suc n) h = count_step (s n) (r n) (size s n) (size r n) (h n) (size_within s r n h)

-- and fewer where it lacks one
pub size_less : (s r : Case) (n a : ℕ) → ((b : ℕ) → s b ≡ true → r b ≡ true) → a < n → s a ≡ false → r a ≡ true → size s n < size r n
size_less s r zero a h l e f = absurd (omega arith)
size_less s r (suc n) a h l e f =
    elim (cases_eq a n) [
      | inl q ↦ less_here (s n) (r n) (size s n) (size r n) (ap s (sym q) ∙ e) (ap r (sym q) ∙ f) (size_within s r n h)
      | inr q ↦ less_step (s n) (r n) (size s n) (size r n) (h n) (size_less s r n a h (omega arith) e f)
    ]

size_step : (x : Bool) (i n : ℕ) → i ≤ n → cond x (suc i) i ≤ suc n
size_step true i n h = omega arith
size_step false i n h = omega arith

-- no case has more arcs than there are
pub size_most : (s : Case) (n : ℕ) → size s n ≤ n
size_most s zero = omega arith
size_most s (suc n) = size_step (s n) (size s n) n (size_most s n)

-- what is known of the working case and of those under it
pub sized_top : (n : ℕ) (cs : List Case) → none_open cs ≡ false → Sized n cs → (size (top cs) n + length (under cs) ≤ 1024) × Sized n (under cs) × (length cs ≡ suc (length (under cs)))
sized_top n [] h s = absurd (true≢false h)
sized_top n (w ∷ rest) h s = (s.0, s.1, refl)

-- each side of a split is within the case, and each lacks an arc that the other has at the place
module _ (arcs : List Arc) (k routes : ℕ) (s : Case) where
  abbrev inn : Case
  inn = inside arcs k routes s

  abbrev out : Case
  out = outside arcs k routes s

  pub inside_within : (a : ℕ) → inn a ≡ true → s a ≡ true
  inside_within a h = (and_parts (s a) _ h).0

  pub outside_within : (a : ℕ) → out a ≡ true → s a ≡ true
  outside_within a h = (and_parts (s a) _ h).0

  here : (x y : Bool) → x ≡ true → (not x || y) ≡ true → y ≡ true
  here true y e h = h
  here false y e h = absurd (true≢false (sym e))

  there : (x y : Bool) → x ≡ true → y ≡ false → (not x || y) ≡ false
  there true y e h = h
  there false y e h = absurd (true≢false (sym e))

  -- an arc of one side at the place is not on the other
  inside_only : (a : ℕ) → at_place arcs k inn a ≡ true → (out a ≡ false) × (s a ≡ true)
  inside_only a h =
      let p = and_parts (inn a) (eqb (arc_at arcs a).place k) h in
      let q = and_parts (s a) _ p.0 in
      (and_right (s a) _ (there (eqb (arc_at arcs a).place k) _ p.1 (not_from_true _ (here (eqb (arc_at arcs a).place k) _ p.1 q.1))), q.0)

  outside_only : (a : ℕ) → at_place arcs k out a ≡ true → (inn a ≡ false) × (s a ≡ true)
  outside_only a h =
      let p = and_parts (out a) (eqb (arc_at arcs a).place k) h in
      let q = and_parts (s a) _ p.0 in
      (and_right (s a) _ (there (eqb (arc_at arcs a).place k) _ p.1 (not-true _ (here (eqb (arc_at arcs a).place k) _ p.1 q.1))), q.0)

  -- a split that is not one-sided: each side has fewer arcs than the case, and the copy on top has one at least
  pub split_sizes : one_sided arcs k routes s ≡ false → (size inn (length arcs) < size s (length arcs)) × (size out (length arcs) < size s (length arcs)) × (1 ≤ size inn (length arcs))
  split_sizes h =
      let p = and_parts (any (at_place arcs k inn) (length arcs)) (any (at_place arcs k out) (length arcs)) (not-false _ h) in
      let a = any_out (at_place arcs k inn) (length arcs) p.0 in
      let b = any_out (at_place arcs k out) (length arcs) p.1 in
      let x = inside_only a.0 a.1.1 in
      let y = outside_only b.0 b.1.1 in
      let less = size_less inn s (length arcs) b.0 inside_within b.1.0 y.0 y.1 in (
        less,
        size_less out s (length arcs) a.0 outside_within a.1.0 x.0 x.1,
        some inn (length arcs) a.0 a.1.0 (and_parts (inn a.0) _ a.1.1).0,
      )
    where
      first : (b : Bool) (i : ℕ) → b ≡ true → 1 ≤ cond b (suc i) i
      first true i e = omega arith
      first false i e = absurd (true≢false (sym e))

      more : (b : Bool) (i : ℕ) → 1 ≤ i → 1 ≤ cond b (suc i) i
      more true i e = omega arith
      more false i e = e

      some : (r : Case) (n a : ℕ) → a < n → r a ≡ true → 1 ≤ size r n
      some r zero a l e = absurd (omega arith)
      some r (suc n) a l e = elim (cases_eq a n) [
        | inl q ↦ first (r n) (size r n) (ap r (sym q) ∙ e)
        | inr q ↦ more (r n) (size r n) (some r n a (omega arith) e)
      ]
