use Rattle.std.proofs.Common.{rules, ◌≡◌, ℕ, ◌*◌, get_or, set, sym, subst₂, arith}
use Rattle.charts.specs.Drafts.{places_of, arcs_of}
use Rattle.ways.specs.Amounts.{marked, price_at}
use Rattle.ways.specs.Ways.{spot, Filled}
use Rattle.ways.proofs.Tables.{filled_start}
use Rattle.sweeps.proofs.Alike.{all_given}
use Rattle.sweeps.proofs.priced.Priced.sweep.Goals as goal

pub loop-step-init : goal.loop-step-init
loop-step-init g c =
    let t = g.T.Tally in
    let h = g.H.Heading in
    let n = places_of c.args.self.now.chart.now in
    let arcs = arcs_of c.args.self.now.chart.now in
    let at : spot h n 0 0 ≡ 32 * c.row_at.result =
    let a = c.row_at.ensures in let d = c.from-places.ensures in let e = c.places.ensures.value in omega (arith, (let f : c.row_at.result ≡ h.row n 0 = cc in f))
    in
    let blank : (q : ℕ) → get_or c.fill_with.new.self q t.nothing ≡ t.nothing = all_given _ t.nothing (λ p x q r. search rules) c.fill_with.new.self _ _ c.fill_with.ensures.ran.1 in
    subst₂ (λ q x. Filled t h n arcs (marked c.args.self.now.standing.now) (price_at c.args.self.now.prices.now) 0 (set c.fill_with.new.self q x)) at (sym c.empty_plan.ensures) (filled_start t g.met.T.Tally.lawful h g.met.H.Heading.lawful n c.args.self.now.chart.now.sealed.few arcs _ _ c.fill_with.new.self (omega arith) blank)
