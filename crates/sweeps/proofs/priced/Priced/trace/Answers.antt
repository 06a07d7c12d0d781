use Rattle.std.proofs.Common.{◌≡◌, suc, ◌+◌, ◌<◌, length, take, set, refl, ◌∙◌, subst, subst₂, arith}
use Rattle.std.proofs.lemmas.List.{drop-set-lt}
use Rattle.std.proofs.lemmas.Bool.{both_ways, and_parts}
use Rattle.plans.specs.Arcs.{arc_at}
use Rattle.plans.specs.Plans.{next, Node}
use Rattle.charts.specs.Drafts.{places_of, arcs_of}
use Rattle.ways.specs.Amounts.{marked, price_at, backward_amount}
use Rattle.ways.specs.Traces.{Traced, Completes}
use Rattle.ways.proofs.Levels.{root_node, end_node, read_table, attained, amount_left, completes_more, completes_all, traced_attains}
use Rattle.sweeps.proofs.priced.Priced.trace.Goals as goal

pub returns-in_default : goal.returns-in_default
returns-in_default g c =
    let t = g.T.Tally in
    let n = places_of c.args.self.now.chart.now in
    let arcs = arcs_of c.args.self.now.chart.now in
    let there = attained t g.met.T.Tally.lawful n arcs c.args.self.now.chart.now.sealed (marked c.args.self.now.standing.now) (price_at c.args.self.now.prices.now) c.args.self.now.fit.small g.met.T.Choosing.chooses (c.loop-j.j + 1) c.loop-j.node c.loop-j.invariant.2 (let f = c.from-j-end.ensures in let d = c.places.ensures.value in omega arith) c.loop-j.invariant.1 in
    absurd (c.in_default.ensures there.0 there.1.0 there.1.1)

pub loop-j-preserved : goal.loop-j-preserved
loop-j-preserved g c =
    let t = g.T.Tally in
    let laws = g.met.T.Tally.lawful in
    let n = places_of c.args.self.now.chart.now in
    let arcs = arcs_of c.args.self.now.chart.now in
    let s = marked c.args.self.now.standing.now in
    let price = price_at c.args.self.now.prices.now in
    let all = c.args.self.now.chart.now.sealed in
    let small = c.args.self.now.fit.small in
    let j = c.loop-j.j in
    let i = c.in-Some.i in
    let k = j + 1 in
    let node = c.loop-j.node in
    let plan = c.loop-j.plan in
    let same = c.arcs.ensures in
    let end = c.from-node.result in
    let to : (arc_at arcs i).end ≡ end = let f = c.from-node.ensures in cc in
    let d = c.places.ensures.value in
    let f = c.from-j-end.ensures in
    let more : j < n = omega arith in
    let up : suc k ≡ j + 1 + 1 = omega arith in
    let l : j < length plan = omega arith in
    let picked = c.in-Some.ensures in
    let goes = (and_parts (s i) (next arcs k node i) picked.1.0.0).1 in (
      subst₂ (λ m v. Completes t n arcs s price (take (j + 1) (set plan j i)) m v) up to (completes_more t laws n arcs all s price small plan j i k node l picked.1 c.loop-j.invariant.0),
      subst₂ (λ m v. backward_amount t n arcs s price m v ≡ t.nothing → ⊥) up to (amount_left t laws n arcs all s price small k node i picked.1.0 c.loop-j.invariant.1),
      subst₂ (λ m v. Node n m v) up to (end_node n arcs all k node i c.loop-j.invariant.2.low goes),
      drop-set-lt n plan j i more ∙ c.loop-j.invariant.3,
    )

pub returns : goal.returns
returns g c =
    let f = c.from-j-end.ensures in
    let d = c.places.ensures.value in
    let t = g.T.Tally in
    let laws = g.met.T.Tally.lawful in
    let n = places_of c.args.self.now.chart.now in
    let arcs = arcs_of c.args.self.now.chart.now in
    let s = marked c.args.self.now.standing.now in
    let price = price_at c.args.self.now.prices.now in
    let all = c.args.self.now.chart.now.sealed in
    let small = c.args.self.now.fit.small in
    let plan = c.loop-j.plan in
    let j = c.loop-j.j in
    let x = c.index-table-0.result in
    let at = read_table t laws n arcs all s price small c.args.table.now 1 0 0 x c.requires.filled c.requires.long (root_node n arcs all) refl c.index-table-0.is in
    let ended : j ≡ n = omega arith in
    let traced = subst (λ m. Traced t n arcs s price 1 0 (take m plan)) ended (completes_all t laws n arcs all s price small plan j (j + 1) c.loop-j.node (omega arith) c.loop-j.invariant.0) in (
      (λ none.
          let ne = laws.neutral x in
          both_ways c.first.result c.if-first.false (c.first.ensures.told.1 (cc))),
      traced,
      traced_attains t laws n arcs all s price small (take n plan) traced,
      c.loop-j.invariant.3,
    )
