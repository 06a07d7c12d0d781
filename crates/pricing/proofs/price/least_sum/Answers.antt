use Rattle.std.proofs.Common.{◌∙◌}
use Rattle.charts.specs.Drafts.{places_of, arcs_of}
use Rattle.ways.specs.Amounts.{marked, price_at}
use Rattle.ways.proofs.Firsts.{least_standing}
use Rattle.ways.proofs.Levels.{root_node}
use Rattle.pricing.proofs.price.least_sum.Goals as goal

pub returns : goal.returns
returns c =
    let n = places_of c.args.priced.now.chart.now in
    let arcs = arcs_of c.args.priced.now.chart.now in
    c.backward.ensures 1 0 (root_node n arcs c.args.priced.now.chart.now.sealed) ∙ least_standing (price_at c.args.priced.now.prices.now) n arcs (marked c.args.priced.now.standing.now)
