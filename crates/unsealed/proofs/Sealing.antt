-- What is drafted is a chart in range, after every form. Assumes nothing.
use Rattle.std.proofs.Common.{◌≡◌, ℕ, ◌<◌, Bool, true, false, not, ◌&&◌, eqb, ltb, ◌+◌, List, [], ◌∷◌, ◌++◌, length, Some, None, Option, sym, refl, subst, inl, inr, arith}
use Rattle.std.proofs.lemmas.List.{length_push, get_or_push, get_or_append_left}
use Rattle.std.proofs.lemmas.Bool.{cases_Bool, cases_lt, not-false, and_parts, or_parts, ltb-false, leb-true, leb-false, eqb-true, eq-eqb, both_ways}
use Rattle.terms.specs.declared.arc.Arc.{Arc}
use Rattle.terms.specs.declared.arc.NewArc.{NewArc}
use Rattle.terms.specs.declared.refusal.Refusal.{Refusal}
use Rattle.terms.specs.Refusals.{when, or_else}
use Rattle.plans.specs.Arcs.{no_arc, ArcInRange, Sealed}
use Rattle.charts.specs.Drafts.{Layout, new_draft, arc_rows, as_arc, on_arc}
use Rattle.unsealed.specs.Stages.{Drafted, places_rows, on_places}

-- the layout of a draft is in range
abbrev pub InOrder : Layout → Type 0
InOrder d = Sealed d.places d.arcs

-- a new draft is
pub new_sealed : InOrder new_draft
new_sealed = record { some = omega arith; few = omega arith; count = omega arith; arc = λ a h. absurd (omega (arith, h)) }

-- where no row holds, each cause is absent
no_row : (b : Bool) (e : Refusal) (rest : Option Refusal) → or_else (when b e) rest ≡ None → (b ≡ false) × (rest ≡ None)
no_row true e rest h = absurd (let z : ◌≡◌ {A = ℕ} 0 1 = cc in omega arith)
no_row false e rest h = (refl, h)

-- a number that is not above m
not_above : (m n : ℕ) → ltb m n ≡ false → n < m + 1
not_above m n e = omega (arith, ltb-false m n e)

-- an arc that no row refuses is in range
arc_fits : (d : Layout) (x : NewArc) → arc_rows d x ≡ None → ArcInRange d.places (as_arc x) × (length d.arcs < 1024)
arc_fits d x none =
    let one = no_row _ _ _ none in
    let two = no_row _ _ _ one.1 in
    let three = no_row _ _ _ two.1 in
    let four = no_row _ _ _ three.1 in
    let five = no_row _ _ _ four.1 in
    let place = and_parts _ _ (not-false _ one.0) in
    let nodes = or_parts _ _ two.0 in
    let above = or_parts _ _ nodes.0 in
    let ends = or_parts _ _ nodes.1 in (
      record {
        placed = (leb-true 1 x.place place.0, leb-true x.place d.places place.1);
        noded = (not_above 31 x.start above.0, not_above 31 x.end above.1);
        rooted = λ e. at_zero x.place 1 x.start ends.0 e;
        ended = λ e. at_zero x.place d.places x.end ends.1 e;
        ranged = (not_above 63 x.route three.0, ltb-false 10000 x.minutes four.0);
      },
      leb-false 1024 (length d.arcs) five.0,
    )
  where
    at_zero : (k n v : ℕ) → (eqb k n && not (eqb v 0)) ≡ false → k ≡ n → v ≡ 0
    at_zero k n v f e =
        elim (cases_Bool (eqb v 0)) [
          | inl z ↦ eqb-true v 0 z
          | inr z ↦ absurd (both_ways _ f (rw (eq-eqb k n e, z)))
        ]

-- one arc more that is in range
one_more : (n : ℕ) (arcs : List Arc) (y : Arc) → Sealed n arcs → ArcInRange n y → length arcs < 1024 → Sealed n (arcs ++ y ∷ [])
one_more n arcs y s fits room = record {
  some = s.some;
  few = s.few;
  count = omega (arith, length_push arcs y);
  arc = λ a h.
      elim (cases_lt a (length arcs)) [
        | inl l ↦ subst (ArcInRange n) (sym (get_or_append_left arcs (y ∷ []) no_arc a l)) (s.arc a l)
        | inr l ↦ subst (ArcInRange n) (sym (get_or_push arcs y no_arc a (omega (arith, h, length_push arcs y)))) fits
      ];
}

-- after an arc form
pub arc_sealed : (d : Layout) (x : NewArc) → InOrder d → InOrder (on_arc d x).left
arc_sealed d x s = go (arc_rows d x) refl
  where
    go : (o : Option Refusal) → arc_rows d x ≡ o → InOrder (on_arc d x).left
    go None e = let f = arc_fits d x e in rw e (one_more d.places d.arcs (as_arc x) s f.0 f.1)
    go (Some r) e = rw e s

-- after a form that sets the number of places: there is no arc
pub places_sealed : (d : Drafted) (n : ℕ) → InOrder d.layout → InOrder (on_places d n).left.layout
places_sealed d n s = go (places_rows d n) refl
  where
    go : (o : Option Refusal) → places_rows d n ≡ o → InOrder (on_places d n).left.layout
    go None e =
        let one = no_row _ _ _ e in
        let two = no_row _ _ _ one.1 in
        let range = and_parts _ _ (not-false _ one.0) in
        let none : length d.layout.arcs ≡ 0 = eqb-true (length d.layout.arcs) 0 (not-false _ (or_parts _ _ two.0).0) in
        rw e (record {
          some = leb-true 1 n range.0;
          few = leb-true n 32 range.1;
          count = s.count;
          arc = λ a h. absurd (omega (arith, h, none));
        })
    go (Some r) e = rw e s
