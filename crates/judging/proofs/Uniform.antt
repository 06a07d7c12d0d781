-- A case in which each place has one route at most closes, if the claim is true. Assumes nothing.
use Rattle.std.proofs.Common.{◌≡◌, ℕ, suc, ◌*◌, ◌<◌, ◌≤◌, true, ◌⊎◌, List, [], ◌∷◌, length, get_or, ℤ, pos, ◌+ℤ◌, ◌-ℤ◌, ◌≤ℤ◌, Some, None, Option, sym, refl, ap, ◌∙◌, subst, ap₂, inl, inr, arith}
use Rattle.std.proofs.lemmas.Int.{ints}
use Rattle.std.proofs.lemmas.Bool.{and_parts}
use Rattle.terms.specs.declared.arc.Arc.{Arc}
use Rattle.terms.specs.declared.refusal.Refusal.TheVariants.{NotClosed}
use Rattle.terms.specs.Refusals.{naming, Outcome}
use Rattle.plans.specs.Arcs.{arc_at}
use Rattle.plans.specs.Plans.{Path, In}
use Rattle.plans.specs.Cases.{Case, stands}
use Rattle.plans.specs.Firsts.{amount_in}
use Rattle.plans.proofs.Whole.{le_lt_z}
use Rattle.plans.proofs.Steps.{next_there, next_place}
use Rattle.plans.proofs.Standing.{in_stands, cheapest_in}
use Rattle.rules.specs.Rules.{Rule, no_rule}
use Rattle.rules.specs.Lawful.{Problem, Lawful, weighed, total, meets, cost_of}
use Rattle.amounts.specs.Multipliers.{Fair}
use Rattle.amounts.specs.Amounts.{charge, amount}
use Rattle.judging.specs.Cases.{Model, mark, standing_in, first_plan, piled}
use Rattle.judging.specs.Calls.{undercut, close_rows, close_done, after, close}
use Rattle.judging.specs.Theorem.{NoneUnder, ranged}
use Rattle.judging.proofs.Rows.{none_or, decided_done}
use Rattle.judging.proofs.Marks.{mark_under}
use Rattle.judging.proofs.Multipliers.{fair_rows, zeros, zeros_fair, zeros_ranged, zeros_charge, broken_or_not}

-- one route at each place
abbrev pub Uniform : List Arc → Case → Type 0
Uniform arcs s = (a b : ℕ) → a < length arcs → b < length arcs → s a ≡ true → s b ≡ true → (arc_at arcs a).place ≡ (arc_at arcs b).place → (arc_at arcs a).route ≡ (arc_at arcs b).route

-- so all standing plans have the same weights
same_weighed : (arcs : List Arc) (s : Case) (u : Rule) → Uniform arcs s → (k v w : ℕ) (p q : List ℕ) → length p ≡ length q → Path arcs k v p → Path arcs k w q → stands s p ≡ true → stands s q ≡ true → weighed arcs u p ≡ weighed arcs u q
same_weighed arcs s u uni k v w [] [] e g h x y = refl
same_weighed arcs s u uni k v w [] (b ∷ q) e g h x y = absurd (omega arith)
same_weighed arcs s u uni k v w (a ∷ p) [] e g h x y = absurd (omega arith)
same_weighed arcs s u uni k v w (a ∷ p) (b ∷ q) e g h x y =
    let i = and_parts (s a) (stands s p) x in
    let j = and_parts (s b) (stands s q) y in
    let place : (arc_at arcs a).place ≡ (arc_at arcs b).place = next_place arcs k v a g.0 ∙ sym (next_place arcs k w b h.0) in
    let route : (arc_at arcs a).route ≡ (arc_at arcs b).route = uni a b (next_there arcs k v a g.0) (next_there arcs k w b h.0) i.0 j.0 place in
    ap₂ ◌+ℤ◌ (ap₂ u.weight place route) (same_weighed arcs s u uni (suc k) (arc_at arcs a).end (arc_at arcs b).end p q (omega arith) g.1 h.1 i.1 j.1)

-- a list is empty, or something is on it
listed : (ps : List (List ℕ)) → (ps ≡ []) ⊎ ((q : List ℕ) × In q ps)
listed [] = inl refl
listed (q ∷ qs) = inr (q, inl refl)

-- a least amount that is not below the mark
pub undercut_over : (v : ℤ) (f : List ℕ → ℤ) (o : Option (List ℕ)) → ((q : List ℕ) → o ≡ Some q → v ≤ℤ f q) → undercut v (amount_in f o) ≡ None
undercut_over v f None h = refl
undercut_over v f (Some q) h = rw (le_lt_z (f q) v (h q refl)) refl

module _ (t : Problem) (few : length t.rules ≤ 128) (m : Model) (low : m.claimed ≤ 1000000) (right : NoneUnder t m.claimed) where
  -- fair multipliers at which no standing plan is below the mark close the working case
  closes : (zs : List ℤ) (s : Case) (rest : List Case) → Fair t.rules zs → ((p : List ℕ) → In p (standing_in t s) → mark m.claimed ≤ℤ amount t zs p) → after t (piled m (s ∷ rest)) (close zs) ≡ piled m rest
  closes zs s rest f h =
      ap (λ (o : Outcome Model ℕ). o.left) (decided_done (piled m (s ∷ rest)) (close_rows t (piled m (s ∷ rest)) zs) (close_done (piled m (s ∷ rest)))
      (none_or _ _ (fair_rows t zs few f)
      (none_or _ _ (ap (naming NotClosed) (undercut_over (mark m.claimed) (amount t zs) (first_plan t zs s) (λ q e. h q (cheapest_in (amount t zs) q (standing_in t s) e)))) refl)))

  -- and the same totals
  same_totals : (s : Case) → Uniform t.arcs s → (p q : List ℕ) → In p (standing_in t s) → In q (standing_in t s) → (u : Rule) → total t.arcs u p ≡ total t.arcs u q
  same_totals s uni p q i j u =
      let x = in_stands t.places t.arcs s p i in
      let y = in_stands t.places t.arcs s q j in
      ap (λ (z : ℤ). z -ℤ u.limit) (same_weighed t.arcs s u uni 1 0 0 p q (x.plan.long ∙ sym y.plan.long) x.plan.path y.plan.path x.all y.all)

  abbrev Closes : Case → List Case → Type 0
  Closes s rest = (zs : List ℤ) × ((ranged zs ≡ true) × (after t (piled m (s ∷ rest)) (close zs) ≡ piled m rest))

  -- so zeros close the case, or the largest multiplier for a rule that they all break
  pub uniform_closes : (s : Case) (rest : List Case) → Uniform t.arcs s → Closes s rest
  uniform_closes s rest uni =
      elim (listed (standing_in t s)) [
        | inl none ↦ (zeros t.rules, (zeros_ranged t.rules, closes (zeros t.rules) s rest (zeros_fair t.rules) (λ p i. absurd (subst (In p) none i))))
        | inr some ↦ elim (broken_or_not t.arcs some.0 t.rules) [
          | inl all ↦ (
            zeros t.rules,
            (
              zeros_ranged t.rules,
              closes (zeros t.rules) s rest (zeros_fair t.rules) (λ p i.
                  let lawful : Lawful t p = record { plan = (in_stands t.places t.arcs s p i).plan; allowed = λ r l. ap (meets (get_or t.rules r no_rule).sense) (same_totals s uni p some.0 i some.1 (get_or t.rules r no_rule)) ∙ all r l } in
                  free (mark m.claimed) (pos (1000 * cost_of t p)) (charge t.arcs t.rules (zeros t.rules) p) (mark_under m.claimed (cost_of t p) (right p lawful)) (zeros_charge t.arcs t.rules p)),
            ),
          )
          | inr c ↦ (
            c.0,
            (
              c.1.1.0,
              closes c.0 s rest c.1.0 (λ p i.
                  dear (mark m.claimed) (cost_of t p) (charge t.arcs t.rules c.0 p) (mark_under m.claimed 1000000 low) (c.1.1.1 p (same_totals s uni p some.0 i some.1))),
            ),
          )
        ]
      ]
    where
      free : (x y z : ℤ) → x ≤ℤ y → z ≡ pos 0 → x ≤ℤ (y +ℤ z)
      free x y z h k = omega (arith, ints)

      dear : (x : ℤ) (k : ℕ) (z : ℤ) → x ≤ℤ pos (1000 * 1000000) → pos 1_000_000_000 ≤ℤ z → x ≤ℤ (pos (1000 * k) +ℤ z)
      dear x k z h l = omega (arith, ints)
