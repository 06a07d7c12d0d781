use Rattle.std.proofs.Common.{◌≡◌, suc, ◌+◌, ◌-◌, ◌*◌, ◌<◌, length, sym, refl, ap, subst, arith, below_more}
use Rattle.std.proofs.lemmas.Bool.{both_ways, and_from, and_parts}
use Rattle.plans.specs.Arcs.{arc_at}
use Rattle.plans.specs.Plans.{next}
use Rattle.plans.proofs.Steps.{next_from, next_place, next_start}
use Rattle.charts.specs.Drafts.{places_of, arcs_of}
use Rattle.tallies.specs.Laws.{wide}
use Rattle.ways.specs.Amounts.{marked, price_at}
use Rattle.ways.proofs.Tables.{price_passed}
use Rattle.ways.proofs.Levels.{end_node, after, amount_narrow, read_table, read_beyond, attains_yes, attains_no}
use Rattle.sweeps.proofs.priced.Priced.pick.Goals as goal
use Rattle.sweeps.proofs.priced.Priced.pick.Goals.{then-self-i+then-from-place+then-from-node+else-first, else-self-i, else-self-i-via-then-self-i+then-from-place+else-from-node, else-self-i-via-then-self-i+else-from-place, else-self-i-via-else-self-i}

pub extend-part-requires : goal.extend-part-requires
extend-part-requires g c =
    let t = g.T.Tally in
    let laws = g.met.T.Tally.lawful in
    let n = places_of c.args.self.now.chart.now in
    let arcs = arcs_of c.args.self.now.chart.now in
    let s = marked c.args.self.now.standing.now in
    let price = price_at c.args.self.now.prices.now in
    let whole = c.args.self.now.chart.now.sealed in
    let small = c.args.self.now.fit.small in
    let k = c.args.place in
    let i = c.loop-i.i in
    let e = (arc_at arcs i).end in
    let same = c.arcs-arcs.ensures in
    let there : i < length arcs = omega (arith, ap length same) in
    let place : (arc_at arcs i).place ≡ k = let a = c.from.ensures in let b = c.if-from-place.true in cc in
    let start : (arc_at arcs i).start ≡ c.args.node = let a = c.from-then-from-place.ensures in let b = c.if-from-node.true in cc in
    let goes = next_from arcs k c.args.node i there place start in
    let node = end_node n arcs whole k c.args.node i c.requires.there.low goes in
    let x = c.index-table-place-then-from-node.result in
    let entry : 32 * k + c.from-then-from-node.result ≡ 32 * k + e = let a = c.from-then-from-node.ensures in cc in
    let read = read_beyond t laws n arcs whole s price small c.args.table.now k c.args.node i (32 * k + c.from-then-from-node.result) x c.requires.filled c.requires.long c.requires.there.low goes entry c.index-table-place-then-from-node.is in (
      subst (λ y. t.size y < wide) (sym read) (amount_narrow t laws n arcs whole s price small (suc k) e node),
      rw (price_passed (price i) (small i)) (omega (arith, small i)),
    )

pub returns-then-first : goal.returns-then-first
returns-then-first g c =
    let t = g.T.Tally in
    let laws = g.met.T.Tally.lawful in
    let n = places_of c.args.self.now.chart.now in
    let arcs = arcs_of c.args.self.now.chart.now in
    let s = marked c.args.self.now.standing.now in
    let price = price_at c.args.self.now.prices.now in
    let all = c.args.self.now.chart.now.sealed in
    let small = c.args.self.now.fit.small in
    let k = c.args.place in
    let v = c.args.node in
    let table = c.args.table.now in
    let i = c.loop-i.i in
    let e = (arc_at arcs i).end in
    let same = c.arcs-arcs.ensures in
    let there : i < length arcs = omega (arith, ap length same) in
    let place : (arc_at arcs i).place ≡ k = let a = c.from.ensures in let b = c.if-from-place.true in cc in
    let start : (arc_at arcs i).start ≡ v = let a = c.from-then-from-place.ensures in let b = c.if-from-node.true in cc in
    let goes = next_from arcs k v i there place start in
    let stands = and_from (s i) (next arcs k v i) c.if-self-i.true goes in
    let at : 32 * k + c.from-then-from-node.result ≡ 32 * k + e = let a = c.from-then-from-node.ensures in cc in
    let beyond = read_beyond t laws n arcs all s price small table k v i (32 * k + c.from-then-from-node.result) c.index-table-place-then-from-node.result c.requires.filled c.requires.long c.requires.there.low goes at c.index-table-place-then-from-node.is in
    let whole = read_table t laws n arcs all s price small table k v (32 * (k - 1) + v) c.index-table-place.result c.requires.filled c.requires.long c.requires.there refl c.index-table-place.is in
    let paid = price_passed (price i) (small i) in
    let longer = c.extend-part.ensures in
    let part : c.extend-part.result ≡ after t laws n arcs all s price small k i = cc in
    let chosen = c.first.ensures.told.0 c.if-first.true in
    (there, ((stands, attains_yes t laws n arcs all s price small g.met.T.Choosing.chooses k v c.requires.there c.requires.before_end i stands (cc)), c.loop-i.invariant))

pub loop-i-preserved : goal.loop-i-preserved
loop-i-preserved g c =
    let t = g.T.Tally in
    let laws = g.met.T.Tally.lawful in
    let n = places_of c.args.self.now.chart.now in
    let arcs = arcs_of c.args.self.now.chart.now in
    let s = marked c.args.self.now.standing.now in
    let price = price_at c.args.self.now.prices.now in
    let all = c.args.self.now.chart.now.sealed in
    let small = c.args.self.now.fit.small in
    let k = c.args.place in
    let v = c.args.node in
    let table = c.args.table.now in
    let i = c.loop-i.i in
    let e = (arc_at arcs i).end in
    let same = c.arcs-arcs.ensures in
    below_more _ _ c.loop-i.invariant (λ a.
    let both = and_parts (s i) (next arcs k v i) a.0 in
    elim c.if-self-i.branch [
      | then-self-i+then-from-place+then-from-node+else-first w ↦
          let at : 32 * k + w.from-then-from-node.result ≡ 32 * k + e = let f = w.from-then-from-node.ensures in cc in
          let beyond = read_beyond t laws n arcs all s price small table k v i (32 * k + w.from-then-from-node.result) w.index-table-place-then-from-node.result c.requires.filled c.requires.long c.requires.there.low both.1 at w.index-table-place-then-from-node.is in
          let whole = read_table t laws n arcs all s price small table k v (32 * (k - 1) + v) c.index-table-place.result c.requires.filled c.requires.long c.requires.there refl c.index-table-place.is in
          let paid = price_passed (price i) (small i) in
          let longer = w.extend-part.ensures in
          let part : w.extend-part.result ≡ after t laws n arcs all s price small k i = cc in
          let back = attains_no t laws n arcs all s price small g.met.T.Choosing.chooses k v c.requires.there c.requires.before_end i a.0 a.1 in
          both_ways w.first.result w.if-first.false (w.first.ensures.told.1 (cc))
      | else-self-i w ↦ elim w.else-self-i.branch [
        | else-self-i-via-then-self-i+then-from-place+else-from-node u ↦
            let f = u.from-then-from-place.ensures in let here = next_start arcs k v i both.1 in u.if-from-node.false (cc)
        | else-self-i-via-then-self-i+else-from-place u ↦ let f = u.from.ensures in let here = next_place arcs k v i both.1 in u.if-from-place.false (cc)
        | else-self-i-via-else-self-i u ↦ both_ways (s i) u.if-self-i.false both.0
      ]
    ])
