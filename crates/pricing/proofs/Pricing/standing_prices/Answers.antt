use Rattle.std.proofs.Common.{ℕ, ◌<◌, ◌≢◌, cond, List, length, ℤ, pos, refl, sym, ap, ◌∙◌, arith, length-set, get_or-set_other, get_or-set_same, below_more, w64, to_z, of_z, SFits, rules}
use Rattle.std.proofs.lemmas.Int.{to_z-of_z}
use Rattle.terms.specs.declared.arc.Arc.{Arc}
use Rattle.plans.specs.Arcs.{arc_at}
use Rattle.amounts.specs.Amounts.{arc_price}
use Rattle.charts.specs.Drafts.{places_of, arcs_of}
use Rattle.ways.specs.Amounts.{marked, price_at}
use Rattle.sweeps.proofs.Alike.{alike}
use Rattle.through.proofs.Pricing.{filled_in, sweepable}
use Rattle.pricing.proofs.Pricing.standing_prices.Goals as goal
use Rattle.pricing.proofs.Pricing.standing_prices.Goals.{then-standing-i, else-standing-i}

pub loop-i-init : goal.loop-i-init
loop-i-init g c = record { long = refl; done = λ a l. absurd (omega (arith, l)); rest = λ a h. alike 1024 a (pos 0) }

pub loop-i-preserved : goal.loop-i-preserved
loop-i-preserved g c =
    let prices = c.loop-i.prices in
    let i = c.loop-i.i in
    let inv = c.loop-i.invariant in
    let price : ℕ → ℤ = λ a. arc_price (g.B.Bank.rules c.args.self.now.bank.now) c.args.self.now.multipliers.now (arc_at c.arcs-arc-items.result.now a) in
    elim c.if-standing-i.branch [
      | then-standing-i w ↦
          let room : i < length prices = omega (arith, inv.long, ap length c.arcs-arc-items.ensures, c.args.chart.now.sealed.count) in
          let f : SFits w64 w.arc_price.result = search rules in
          let z = to_z w64 (of_z w64 w.arc_price.result) in
          rw w.prices-is (record {
            long = length-set prices i z ∙ inv.long;
            done = below_more _ i
                (λ a l. let ne : a ≢ i = omega arith in get_or-set_other prices i a z (pos 0) ne ∙ inv.done a l)
                (get_or-set_same prices i z (pos 0) room ∙ to_z-of_z w64 w.arc_price.result f ∙ w.arc_price.ensures ∙ sym (ap (λ b. cond b (price i) (pos 0)) w.if-standing-i.true));
            rest = λ a h. let ne : a ≢ i = omega arith in get_or-set_other prices i a z (pos 0) ne ∙ inv.rest a (omega arith);
          })
      | else-standing-i w ↦
          rw w.prices-is (record {
            long = inv.long;
            done = below_more _ i inv.done (inv.rest i (omega arith) ∙ sym (ap (λ b. cond b (price i) (pos 0)) w.if-standing-i.false));
            rest = λ a h. inv.rest a (omega arith);
          })
    ]

pub returns : goal.returns
returns g c =
    let us = g.B.Bank.rules c.args.self.now.bank.now in
    let zs = c.args.self.now.multipliers.now in
    let arcs = arcs_of c.args.chart.now in
    let on = c.args.standing.now in
    let prices = c.loop-i.prices in
    let items = c.arcs-arc-items.ensures in
    let inv = c.loop-i.invariant in
    let each = filled_in us zs arcs (marked on) (price_at prices) (λ a l. inv.done a (omega (arith, ap length items)) ∙ ap (λ (xs : List Arc). cond (marked on a) (arc_price us zs (arc_at xs a)) (pos 0)) items) (λ a h. inv.rest a (omega (arith, ap length items))) in
    record {
      long = inv.long;
      each = each;
      fit = sweepable (places_of c.args.chart.now) arcs c.args.chart.now.sealed us zs c.args.self.now.asked (g.B.Bank.within c.args.self.now.bank.now) on c.requires prices inv.long each;
    }
