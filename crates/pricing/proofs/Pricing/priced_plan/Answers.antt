use Rattle.std.proofs.Common.{ℕ, List, Option, ap, ◌∙◌}
use Rattle.plans.specs.Firsts.{written}
use Rattle.charts.specs.Drafts.{places_of, arcs_of}
use Rattle.ways.specs.Amounts.{marked, price_at}
use Rattle.through.proofs.Pricing.{sum_small, with_share, plan_is}
use Rattle.pricing.proofs.Pricing.priced_plan.Goals as goal

pub plus-requires-clause-amount_small : goal.plus-requires-clause-amount_small
plus-requires-clause-amount_small g c =
    sum_small (places_of c.args.chart.now) (arcs_of c.args.chart.now) c.args.chart.now.sealed (g.B.Bank.rules c.args.self.now.bank.now) c.args.self.now.multipliers.now c.args.standing.now c.standing_prices-prices.result c.standing_prices-prices.ensures.fit.small c.standing_prices-prices.ensures.each c.least_plan-sum.result c.least_plan-sum.ensures.amount

pub returns : goal.returns
returns g c = record {
  amount = c.plus.ensures.value
      ∙ with_share (places_of c.args.chart.now) (arcs_of c.args.chart.now) c.args.chart.now.sealed (g.B.Bank.rules c.args.self.now.bank.now) c.args.self.now.multipliers.now c.args.standing.now c.standing_prices-prices.result c.standing_prices-prices.ensures.fit.small c.standing_prices-prices.ensures.each c.least_plan-sum.result c.least_plan-sum.ensures.amount c.limits_share.result c.limits_share.ensures.value c.limits_share.ensures.small;
  plan = c.least_plan-sum.ensures.plan ∙ ap (λ (o : Option (List ℕ)). written o c.args.plan.now) (plan_is (places_of c.args.chart.now) (arcs_of c.args.chart.now) (g.B.Bank.rules c.args.self.now.bank.now) c.args.self.now.multipliers.now (marked c.args.standing.now) (price_at c.standing_prices-prices.result) c.standing_prices-prices.ensures.each);
}
