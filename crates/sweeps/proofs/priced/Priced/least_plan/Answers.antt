use Rattle.std.proofs.Common.{◌∙◌}
use Rattle.charts.specs.Drafts.{places_of, arcs_of}
use Rattle.ways.specs.Amounts.{marked, price_at}
use Rattle.ways.proofs.Firsts.{least_standing}
use Rattle.ways.proofs.Writes.{least_wrote}
use Rattle.sweeps.proofs.priced.Priced.least_plan.Goals as goal

pub returns : goal.returns
returns c =
    let p = c.args.self.now in
    let n = places_of p.chart.now in
    let arcs = arcs_of p.chart.now in
    let s = marked p.standing.now in
    let price = price_at p.prices.now in
    record {
      amount = c.attain.ensures.amount ∙ least_standing price n arcs s;
      plan = least_wrote n arcs p.chart.now.sealed s price p.fit.small c.args.plan.now c.attain.new.plan c.attain.ensures.plan.0 c.attain.ensures.plan.1;
    }
