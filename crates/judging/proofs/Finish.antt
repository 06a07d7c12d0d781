-- A true claim can be confirmed: each open case is split until every place has one route, and then closed. Assumes nothing.
use Rattle.std.proofs.Common.{◌≡◌, ℕ, zero, suc, ◌+◌, ◌^◌, ◌<◌, ◌≤◌, Bool, true, false, cond, not, ◌&&◌, eqb, ltb, leb, ◌⊎◌, List, [], ◌∷◌, ◌++◌, length, Some, None, Option, sym, refl, ap, ◌∙◌, subst, inl, inr, arith}
use lib.Pow.{pow-lt}
use Rattle.std.proofs.lemmas.Bool.{and_parts, and_from, or_right, cases_Bool, cases_eq, true≢false, both_ways, not_from_true, not_from_false, not-true, eqb-false, eq-eqb, ne_eqb, lt-ltb, le-leb, lt-leb, le-ltb}
use Rattle.terms.specs.declared.arc.Arc.{Arc}
use Rattle.terms.specs.declared.verdict.Verdict.TheVariants.{Open, Proved, Best, Refuted}
use Rattle.terms.specs.declared.refusal.Refusal.TheVariants.{SplitPlace, OneSided, PileFull}
use Rattle.terms.specs.Refusals.{when, Outcome}
use Rattle.terms.specs.Routes.{in_set}
use Rattle.plans.specs.Arcs.{arc_at}
use Rattle.plans.specs.Cases.{Case, size, any}
use Rattle.rules.specs.Lawful.{Problem, Lawful, cost_of}
use Rattle.judging.specs.Cases.{Model, at_place, inside, outside, piled}
use Rattle.judging.specs.Calls.{one_sided, split_rows, split_done, judged, after, run, Call, split, close}
use Rattle.judging.specs.Theorem.{Posed, Few, Sized, NoneUnder, Confirmed, finishing, all_finishing}
use Rattle.judging.proofs.Rows.{none_or, decided_done}
use Rattle.judging.proofs.Sizes.{any_in, any_out, none_in, split_sizes}
use Rattle.judging.proofs.Sets.{set_self, set_other}
use Rattle.judging.proofs.Uniform.{Uniform, uniform_closes}
use Rattle.judging.proofs.Sound.{Safe}

-- an arc of the place of a, with another route
abbrev rival : List Arc → Case → ℕ → Case
rival arcs s a b = s b && (eqb (arc_at arcs b).place (arc_at arcs a).place && not (eqb (arc_at arcs b).route (arc_at arcs a).route))

-- an arc that has such a rival
abbrev rivalled : List Arc → Case → Case
rivalled arcs s a = s a && any (rival arcs s a) (length arcs)

-- without rivals each place has one route at most
unrivalled : (arcs : List Arc) (s : Case) → any (rivalled arcs s) (length arcs) ≡ false → Uniform arcs s
unrivalled arcs s h a b la lb x y e =
    elim (cases_eq (arc_at arcs a).route (arc_at arcs b).route) [
      | inl r ↦ r
      | inr n ↦
          let riv : rival arcs s a b ≡ true = and_from (s b) _ y (and_from _ _ (eq-eqb _ _ (sym e)) (not_from_false _ (ne_eqb _ _ (λ q. n (sym q))))) in
          absurd (both_ways (rivalled arcs s a) (none_in (rivalled arcs s) (length arcs) a h la) (and_from (s a) _ x (any_in (rival arcs s a) (length arcs) b lb riv)))
    ]

-- one list of calls after another
pub run_both : (t : Problem) (xs ys : List Call) (m : Model) → run t (xs ++ ys) m ≡ run t ys (run t xs m)
run_both t [] ys m = refl
run_both t (x ∷ xs) ys m = run_both t xs ys (after t m x)

finishing_both : (xs ys : List Call) → all_finishing xs ≡ true → all_finishing ys ≡ true → all_finishing (xs ++ ys) ≡ true
finishing_both [] ys p q = q
finishing_both (x ∷ xs) ys p q = let r = and_parts (finishing x) (all_finishing xs) p in and_from (finishing x) _ r.0 (finishing_both xs ys r.1 q)

module _ (t : Problem) (posed : Posed t) (few : Few t) (m : Model) (low : m.claimed ≤ 1000000) (right : NoneUnder t m.claimed) where
  abbrev n : ℕ
  n = length t.arcs

  -- splits and closes lead from one pile to another
  abbrev Leads : List Case → List Case → Type 0
  Leads from to = (cs : List Call) × ((all_finishing cs ≡ true) × (run t cs (piled m from) ≡ piled m to))

  step : (from to : List Case) (c : Call) → finishing c ≡ true → after t (piled m from) c ≡ piled m to → Leads from to
  step from to c f e = (c ∷ [], (and_from (finishing c) true f refl, e))

  chain : (x y z : List Case) → Leads x y → Leads y z → Leads x z
  chain x y z a b = (a.0 ++ b.0, (finishing_both a.0 b.0 a.1.0 b.1.0, run_both t a.0 b.0 (piled m x) ∙ ap (run t b.0) a.1.1 ∙ b.1.1))

  -- two arcs of one place with different routes split a case
  parts : (s : Case) (rest : List Case) (a b : ℕ) → size s n + length rest ≤ 1024 → a < n → b < n → s a ≡ true → rival t.arcs s a b ≡ true →
      (k : ℕ) × ((routes : ℕ) × ((one_sided t.arcs k routes s ≡ false) × Leads (s ∷ rest) (inside t.arcs k routes s ∷ (outside t.arcs k routes s ∷ rest))))
  parts s rest a b room la lb x y =
      let arcs = t.arcs in
      let k = (arc_at arcs a).place in
      let q = (arc_at arcs a).route in
      let r = and_parts (s b) _ y in
      let w = and_parts (eqb (arc_at arcs b).place k) _ r.1 in
      let range = posed.chart.arc a la in
      let inn : at_place arcs k (inside arcs k (2 ^ q) s) a ≡ true = and_from _ _ (and_from (s a) _ x (or_right _ _ (set_self q))) (eq-eqb k k refl) in
      let other : in_set (2 ^ q) (arc_at arcs b).route ≡ false = set_other q (arc_at arcs b).route (eqb-false _ _ (not-true _ w.1)) in
      let out : at_place arcs k (outside arcs k (2 ^ q) s) b ≡ true = and_from _ _ (and_from (s b) _ r.0 (or_right _ _ (not_from_false _ other))) w.0 in
      let two : one_sided arcs k (2 ^ q) s ≡ false = not_from_true _ (and_from _ _ (any_in (at_place arcs k (inside arcs k (2 ^ q) s)) n a la inn) (any_in (at_place arcs k (outside arcs k (2 ^ q) s)) n b lb out)) in
      let sizes = split_sizes arcs k (2 ^ q) s two in
      let room' : leb 1024 (suc (length rest)) ≡ false = lt-leb 1024 (suc (length rest)) (omega (arith, sizes.0, sizes.2)) in
      let place : (leb 1 k && leb k t.places) ≡ true = and_from _ _ (le-leb 1 k range.placed.0) (le-leb k t.places range.placed.1) in
      let rows : split_rows t (piled m (s ∷ rest)) k (2 ^ q) ≡ None =
      none_or _ _ (ap (λ (c : Bool). when (not c) SplitPlace) place)
      (none_or _ _ (ap (λ (c : Bool). when c OneSided) two)
      (none_or _ _ (ap (λ (c : Bool). when c PileFull) room') refl)) in (
        k,
        (
          2 ^ q,
          (
            two,
            step (s ∷ rest) _ (split k (2 ^ q))
                (and_from _ _ (le-leb k 32 (omega (arith, range.placed.1, posed.chart.few))) (lt-ltb (2 ^ q) (2 ^ 64) (pow-lt range.ranged.0)))
                (ap (λ (o : Outcome Model ℕ). o.left) (decided_done (piled m (s ∷ rest)) (split_rows t (piled m (s ∷ rest)) k (2 ^ q)) (split_done t (piled m (s ∷ rest)) k (2 ^ q)) rows)),
          ),
        ),
      )

  -- a case goes: by a close, or by a split and then the copy on top and what is left
  finish_case : (fuel : ℕ) (s : Case) (rest : List Case) → size s n + length rest ≤ 1024 → size s n < fuel → Leads (s ∷ rest) rest
  finish_case zero s rest room less = absurd (omega arith)
  finish_case (suc fuel) s rest room less =
      elim (cases_Bool (any (rivalled t.arcs s) n)) [
        | inr none ↦
            let c = uniform_closes t few m low right s rest (unrivalled t.arcs s none) in
            step (s ∷ rest) rest (close c.0) c.1.0 c.1.1
        | inl some ↦
            let a = any_out (rivalled t.arcs s) n some in
            let x = and_parts (s a.0) _ a.1.1 in
            let b = any_out (rival t.arcs s a.0) n x.1 in
            let p = parts s rest a.0 b.0 room a.1.0 b.1.0 x.0 b.1.1 in
            let inn = inside t.arcs p.0 p.1.0 s in
            let out = outside t.arcs p.0 p.1.0 s in
            let z = split_sizes t.arcs p.0 p.1.0 s p.1.1.0 in
            chain (s ∷ rest) (inn ∷ (out ∷ rest)) rest p.1.1.1
            (chain (inn ∷ (out ∷ rest)) (out ∷ rest) rest
            (finish_case fuel inn (out ∷ rest) (omega (arith, z.0)) (omega (arith, z.0)))
            (finish_case fuel out rest (omega (arith, z.1)) (omega (arith, z.1))))
      ]

  -- and so does the pile
  finish : (cs : List Case) → Sized n cs → Leads cs []
  finish [] z = ([], (refl, refl))
  finish (s ∷ rest) z = chain (s ∷ rest) rest [] (finish_case (suc (size s n)) s rest z.0 (omega arith)) (finish rest z.1)

  -- with no case open, the verdict on a true claim is proved or best
  over : (o : Option (List ℕ)) → ((p : List ℕ) → o ≡ Some p → Lawful t p) → (judged t (piled m []) o ≡ Proved) ⊎ (judged t (piled m []) o ≡ Best)
  over None h = inl refl
  over (Some p) h = by (ltb (cost_of t p) m.claimed) (eqb (cost_of t p) m.claimed) (le-ltb (cost_of t p) m.claimed (right p (h p refl)))
    where
      by : (x y : Bool) → x ≡ false → (cond x Refuted (cond true (cond y Best Proved) Open) ≡ Proved) ⊎ (cond x Refuted (cond true (cond y Best Proved) Open) ≡ Best)
      by true y e = absurd (true≢false e)
      by false true e = inr refl
      by false false e = inl refl

  -- so a true claim can be confirmed from any casebook that calls lead to
  pub confirmable : Safe t m → (more : List Call) × ((all_finishing more ≡ true) × Confirmed t (run t more m))
  confirmable s =
      let d = finish m.pile s.sized in
      (d.0, (d.1.0, subst (Confirmed t) (sym d.1.1) (over m.held s.held)))
