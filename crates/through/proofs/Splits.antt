-- A standing plan through an arc is a standing partial plan to its start, the arc, and one from its end on. Assumes nothing.
use Rattle.std.proofs.Common.{◌≡◌, ℕ, suc, ◌+◌, ◌-◌, ◌<◌, Bool, true, false, ◌&&◌, eqb, List, [], ◌∷◌, ◌++◌, length, sym, refl, ap, ◌∙◌, subst, inl, inr, arith, length-append}
use Rattle.std.proofs.lemmas.Bool.{and_parts, and_from, or_cases, or_left, or_right, eqb-true, eq-eqb, true≢false}
use Rattle.terms.specs.declared.arc.Arc.{Arc}
use Rattle.plans.specs.Arcs.{arc_at, Sealed}
use Rattle.plans.specs.Plans.{next, Path, arrival, fronts, backs, In}
use Rattle.plans.specs.Cases.{Case, stands, those, standing, on}
use Rattle.plans.proofs.Members.{those_in, those_out}
use Rattle.plans.proofs.Steps.{next_from, next_place, next_start, path_join, path_front, path_rest}
use Rattle.plans.proofs.Listing.{paths_in, paths_out}
use Rattle.plans.proofs.Fronts.{reaching_in, reaching_out}
use Rattle.plans.proofs.Standing.{stands_in, in_stands}

-- a plan with an arc on it is split by that arc
pub on_split_lem : (a : ℕ) (p : List ℕ) → on a p ≡ true → (f : List ℕ) × ((b : List ℕ) × (p ≡ f ++ a ∷ b))
on_split_lem a [] h = absurd (true≢false (sym h))
on_split_lem a (j ∷ p) h =
    elim (or_cases (eqb a j) (on a p) h) [
      | inl e ↦ ([], (p, ap (λ x. x ∷ p) (sym (eqb-true a j e))))
      | inr k ↦ let r = on_split_lem a p k in (j ∷ r.0, (r.1.0, ap (λ x. j ∷ x) r.1.1))
    ]

-- and one made so has it
pub on_made : (a : ℕ) (f b : List ℕ) → on a (f ++ a ∷ b) ≡ true
on_made a [] b = or_left (eqb a a) (on a b) (eq-eqb a a refl)
on_made a (j ∷ f) b = or_right (eqb a j) (on a (f ++ a ∷ b)) (on_made a f b)

-- two parts stand exactly if they stand joined
pub stands_join : (s : Case) (p q : List ℕ) → stands s (p ++ q) ≡ (stands s p && stands s q)
stands_join s [] q = refl
stands_join s (a ∷ p) q = ap (λ b. s a && b) (stands_join s p q) ∙ regroup (s a) (stands s p) (stands s q)
  where
    regroup : (x y z : Bool) → (x && (y && z)) ≡ ((x && y) && z)
    regroup true y z = refl
    regroup false y z = refl

module _ (n : ℕ) (arcs : List Arc) (sealed : Sealed n arcs) (s : Case) (a : ℕ) (l : a < length arcs) where
  -- the standing partial plans from the root to where the arc starts, and from where it ends to the end
  abbrev pub befores : List (List ℕ)
  befores = those (stands s) (fronts arcs (arc_at arcs a).place (arc_at arcs a).start)

  abbrev pub behinds : List (List ℕ)
  behinds = those (stands s) (backs n arcs (suc (arc_at arcs a).place) (arc_at arcs a).end)

  -- the two parts of a plan through the arc
  pub record Parts (p : List ℕ) : Type 0 where
    pub front : List ℕ
    pub back : List ℕ
    pub whole : p ≡ front ++ a ∷ back
    pub before : In front befores
    pub behind : In back behinds

  -- every standing plan through the arc has them
  pub parted : (p : List ℕ) → In p (standing n arcs s) → on a p ≡ true → Parts p
  parted p m h =
      let st = in_stands n arcs s p m in
      let r = on_split_lem a p h in
      let f = r.0 in
      let b = r.1.0 in
      let e = r.1.1 in
      let x = arc_at arcs a in
      let path : Path arcs 1 0 (f ++ a ∷ b) = subst (Path arcs 1 0) e st.plan.path in
      let rest : Path arcs (suc (length f)) (arrival arcs 0 f) (a ∷ b) = path_rest arcs f (a ∷ b) 1 0 (suc (length f)) (omega arith) path in
      let place : x.place ≡ suc (length f) = next_place arcs (suc (length f)) (arrival arcs 0 f) a rest.0 in
      let start : x.start ≡ arrival arcs 0 f = next_start arcs (suc (length f)) (arrival arcs 0 f) a rest.0 in
      let long : length f + suc (length b) ≡ n = sym (length-append f (a ∷ b)) ∙ ap length (sym e) ∙ st.plan.long in
      let both = and_parts (stands s f) (stands s (a ∷ b)) (sym (stands_join s f (a ∷ b)) ∙ ap (stands s) (sym e) ∙ st.all) in
      record {
        front = f;
        back = b;
        whole = e;
        before = those_in (stands s) f (fronts arcs x.place x.start) both.0 (reaching_in arcs (x.place - 1) x.start f (record { long = omega arith; path = path_front arcs f (a ∷ b) 1 0 path; ends = sym start }));
        behind = those_in (stands s) b (backs n arcs (suc x.place) x.end) (and_parts (s a) (stands s b) both.1).1 (paths_in arcs (suc n - suc x.place) (suc x.place) x.end b (omega arith) (subst (λ k. Path arcs (suc k) x.end b) (sym place) rest.1));
      }

  -- any two such parts make a standing plan through the arc, if it stands
  pub joined : s a ≡ true → (f b : List ℕ) → In f befores → In b behinds → In (f ++ a ∷ b) (standing n arcs s)
  joined stays f b i j =
      let x = arc_at arcs a in
      let u = those_out (stands s) f (fronts arcs x.place x.start) i in
      let v = those_out (stands s) b (backs n arcs (suc x.place) x.end) j in
      let front = reaching_out arcs (x.place - 1) x.start f u.1 in
      let back = paths_out arcs (suc n - suc x.place) (suc x.place) x.end b v.1 in
      let low = (sealed.arc a l).placed.0 in
      let high = (sealed.arc a l).placed.1 in
      let on : next arcs x.place (arrival arcs 0 f) a ≡ true = next_from arcs x.place (arrival arcs 0 f) a l refl (sym front.ends) in
      stands_in n arcs s (f ++ a ∷ b) (record {
        plan = record {
          long = length-append f (a ∷ b) ∙ omega (arith, front.long, back.0);
          path = path_join arcs f (a ∷ b) 1 0 x.place (omega (arith, front.long)) front.path (on, back.1);
        };
        all = stands_join s f (a ∷ b) ∙ and_from (stands s f) (stands s (a ∷ b)) u.0 (and_from (s a) (stands s b) stays v.0);
      })
