use Rattle.std.proofs.Common.{◌≡◌, ◌∙◌, rules}
use Rattle.std.specs.List.{sum_by}
use Rattle.std.proofs.iter.runs.Made.{chains}
use Rattle.plans.specs.Arcs.{arc_at}
use Rattle.charts.specs.Drafts.{arcs_of}
use Rattle.casebooks.proofs.Offers.{cost_summed}
use Rattle.casebooks.proofs.desk.offers.cost_of.Goals as goal

pub returns : goal.returns
returns c =
    let arcs = arcs_of c.args.chart.now in
    let p = c.args.plan.now in
    let chain : c.sum.result ≡ sum_by (λ a. (arc_at arcs a).minutes) p = search (rules, chains) in
    chain ∙ cost_summed arcs p
