use Rattle.std.proofs.Common.{◌∙◌}
use Rattle.charts.specs.Drafts.{places_of, arcs_of}
use Rattle.through.proofs.Pricing.{sum_small, with_share}
use Rattle.pricing.proofs.Pricing.least_amount.Goals as goal

pub plus-requires-clause-amount_small : goal.plus-requires-clause-amount_small
plus-requires-clause-amount_small g c =
    sum_small (places_of c.args.chart.now) (arcs_of c.args.chart.now) c.args.chart.now.sealed (g.B.Bank.rules c.args.self.now.bank.now) c.args.self.now.multipliers.now c.args.standing.now c.standing_prices-prices.result c.standing_prices-prices.ensures.fit.small c.standing_prices-prices.ensures.each c.least_sum-sum.result c.least_sum-sum.ensures

pub returns : goal.returns
returns g c =
    c.plus.ensures.value
    ∙ with_share (places_of c.args.chart.now) (arcs_of c.args.chart.now) c.args.chart.now.sealed (g.B.Bank.rules c.args.self.now.bank.now) c.args.self.now.multipliers.now c.args.standing.now c.standing_prices-prices.result c.standing_prices-prices.ensures.fit.small c.standing_prices-prices.ensures.each c.least_sum-sum.result c.least_sum-sum.ensures c.limits_share.result c.limits_share.ensures.value c.limits_share.ensures.small
