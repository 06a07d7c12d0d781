use Rattle.std.proofs.Common.{◌∙◌, rules}
use Rattle.plans.specs.Cases.{on_some}
use Rattle.charts.specs.Drafts.{places_of, arcs_of}
use Rattle.amounts.specs.Amounts.{amount, owed}
use Rattle.ways.specs.Amounts.{marked, price_at}
use Rattle.through.proofs.Pricing.{amount_is}
use Rattle.through.proofs.Keeping.{below_is}
use Rattle.pricing.specs.Answers.{problem_on, priced_below}
use Rattle.pricing.proofs.Pricing.strike.Goals as goal

pub returns : goal.returns
returns g c =
    let us = g.B.Bank.rules c.args.self.now.bank.now in
    let zs = c.args.self.now.multipliers.now in
    let n = places_of c.args.chart.now in
    let arcs = arcs_of c.args.chart.now in
    let s = marked c.args.standing.now in
    let price = price_at c.standing_prices-prices.result in
    let is = amount_is n arcs us zs s price c.standing_prices-prices.ensures.each in
    c.sift.ensures (on_some (priced_below c.args.chart.now us zs c.args.mark c.args.standing.now)) (λ a r l stood says.
    search (says, rules) ∙ below_is n arcs c.args.chart.now.sealed s price (amount (problem_on c.args.chart.now us) zs) (owed us zs) is c.args.mark a l stood)
