use Rattle.std.proofs.Common.{◌≡◌, ◌+◌, ◌*◌, ◌<◌, length, get_or, sym, ap, subst, arith}
use Rattle.std.proofs.lemmas.Bool.{eq-eqb, ne_eqb, and_from, and_left, and_right}
use Rattle.plans.specs.Arcs.{arc_at}
use Rattle.charts.specs.Drafts.{places_of, arcs_of}
use Rattle.tallies.specs.Laws.{wide}
use Rattle.ways.specs.Amounts.{marked, price_at}
use Rattle.ways.specs.Ways.{spot}
use Rattle.ways.proofs.Tables.{Arriving, price_passed, arriving_all, arriving_no, arriving_yes, before_narrow}
use Rattle.sweeps.proofs.priced.Priced.cross.Goals as goal
use Rattle.sweeps.proofs.priced.Priced.cross.Goals.{then-self-i+then-from-place, else-self-i, else-self-i-via-then-self-i+else-from-place, else-self-i-via-else-self-i}

-- what is extended is the amount at the arc's near end, which the steps behind have kept small
pub relax-requires-clause-amount_small : goal.relax-requires-clause-amount_small
relax-requires-clause-amount_small g c =
    let t = g.T.Tally in
    let h = g.H.Heading in
    let st = g.met.H.Heading.lawful in
    let n = places_of c.args.self.now.chart.now in
    let arcs = arcs_of c.args.self.now.chart.now in
    let whole = c.args.self.now.chart.now.sealed in
    let k = c.args.step in
    let i = c.loop-i.i in
    let x = arc_at arcs i in
    let same = c.arcs-arc-items.ensures in
    let there : i < length arcs = omega (arith, ap length same) in
    let from : 32 * c.row_at-from.result + c.from-then-from-place.result ≡ spot h n k (h.near x) =
    let a = c.row_at-from.ensures in let b = c.near_end.ensures in let d = c.from-places.ensures in let e = c.places.ensures.value in let f = c.from-then-from-place.ensures in cc
    in
    subst (λ q. t.size (get_or c.loop-i.out q t.nothing) < wide) (sym from) (before_narrow t g.met.T.Tally.lawful h st n whole.few arcs _ _ c.args.self.now.fit.small k i c.requires.more c.loop-i.out (h.near x) (st.near_node x (whole.arc i there).noded) c.loop-i.invariant)

pub loop-i-preserved : goal.loop-i-preserved
loop-i-preserved g c =
    let t = g.T.Tally in
    let laws = g.met.T.Tally.lawful in
    let h = g.H.Heading in
    let st = g.met.H.Heading.lawful in
    let n = places_of c.args.self.now.chart.now in
    let arcs = arcs_of c.args.self.now.chart.now in
    let s = marked c.args.self.now.standing.now in
    let price = price_at c.args.self.now.prices.now in
    let whole = c.args.self.now.chart.now.sealed in
    let small = c.args.self.now.fit.small in
    let k = c.args.step in
    let i = c.loop-i.i in
    let x = arc_at arcs i in
    let same = c.arcs-arc-items.ensures in
    let there : i < length arcs = omega (arith, ap length same) in
    let d = c.from-places.ensures in
    let e = c.places.ensures.value in
    let taken : c.place_at-place.result ≡ h.place n k = let a = c.place_at-place.ensures in cc in
    elim c.if-self-i.branch [
      | then-self-i+then-from-place w ↦
          let a = c.row_at-from.ensures in
          let b = c.row_at-to.ensures in
          let near = w.near_end.ensures in
          let far = w.far_end.ensures in
          let from = w.from-then-from-place.ensures in
          let to = w.from-then-from-place-2.ensures in
          let p = price_passed (price i) (small i) in
          let r = w.relax.ensures in
          let o = w.out-is in
          let at = w.from.ensures in
          let tested = w.if-from-place.true in
          let took = and_from (s i) _ w.if-self-i.true (eq-eqb x.place (h.place n k) (cc)) in
          arriving_yes t laws h st n whole.few arcs s price small k i c.requires.more c.loop-i.out c.if-self-i.out (omega arith) took (whole.arc i there).noded c.loop-i.invariant (cc)
      | else-self-i w ↦ subst (λ out. Arriving t h n arcs s price k (i + 1) out) (sym w.out-is) (arriving_no t laws h st n whole.few arcs s price small k i c.requires.more c.loop-i.out (elim w.else-self-i.branch [
        | else-self-i-via-then-self-i+else-from-place u ↦ and_right (s i) _ (ne_eqb x.place (h.place n k) (λ (q : x.place ≡ h.place n k). let at = u.from.ensures in u.if-from-place.false (cc)))
        | else-self-i-via-else-self-i u ↦ and_left (s i) _ u.if-self-i.false
      ]) c.loop-i.invariant)
    ]

pub returns : goal.returns
returns g c =
    let same = c.arcs-arc-items.ensures in
    let whole = c.args.self.now.chart.now.sealed in
    arriving_all g.T.Tally g.met.T.Tally.lawful g.H.Heading g.met.H.Heading.lawful (places_of c.args.self.now.chart.now) whole.few (arcs_of c.args.self.now.chart.now) _ _ c.args.self.now.fit.small c.args.step c.loop-i.i c.loop-i.out c.requires.more (omega (arith, ap length same)) c.loop-i.invariant
