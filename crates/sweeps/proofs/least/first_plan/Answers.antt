use Rattle.std.proofs.Common.{◌∙◌, replicate, pos}
use Rattle.charts.specs.Drafts.{places_of, arcs_of}
use Rattle.ways.specs.Amounts.{marked, price_at}
use Rattle.ways.proofs.Firsts.{reach_standing}
use Rattle.ways.proofs.Writes.{reach_wrote}
use Rattle.sweeps.proofs.Alike.{unpriced}
use Rattle.sweeps.proofs.least.first_plan.Goals as goal

pub invariant_of-priced : goal.invariant_of-priced
invariant_of-priced c = record {
  fit = unpriced (arcs_of c.args.chart.now) c.args.standing.now 1024 c.requires.marks c.args.chart.now.sealed.count;
}

pub returns : goal.returns
returns c =
    let n = places_of c.args.chart.now in
    let arcs = arcs_of c.args.chart.now in
    let s = marked c.args.standing.now in
    let whole = c.args.chart.now.sealed in
    let price = price_at (replicate 1024 (pos 0)) in
    let small = (unpriced arcs c.args.standing.now 1024 c.requires.marks whole.count).small in
    record {
      answer = c.attain.ensures.amount ∙ reach_standing price n arcs s;
      plan = reach_wrote n arcs whole s price small c.args.plan.now c.attain.new.plan c.attain.ensures.plan.0 c.attain.ensures.plan.1;
    }
