use Rattle.std.proofs.Common.{◌≡◌, ℕ, ◌<◌, true, false, List, length, pos, replicate, Option, ap, ◌∙◌, arith}
use Rattle.std.proofs.lemmas.List.{get_or-replicate, length-replicate}
use Rattle.plans.specs.Arcs.{arc_at}
use Rattle.plans.specs.Firsts.{written}
use Rattle.charts.specs.Drafts.{places_of, arcs_of}
use Rattle.ways.specs.Amounts.{marked, price_at}
use Rattle.ways.proofs.Minutes.{cheapest_minutes, amount_minutes, minutes_small}
use Rattle.sweeps.proofs.least.cheapest_plan.Goals as goal

pub invariant_of-priced : goal.invariant_of-priced
invariant_of-priced c =
    let whole = c.args.chart.now.sealed in
    let count = whole.count in
    let long = c.by_minutes-prices.ensures.long in
    record {
      fit = record {
        marks = omega (arith, length-replicate 1024 true);
        priced = omega arith;
        small = minutes_small (arcs_of c.args.chart.now) (places_of c.args.chart.now) whole c.by_minutes-prices.result c.by_minutes-prices.ensures.each c.by_minutes-prices.ensures.rest;
      };
    }

pub returns : goal.returns
returns c =
    let n = places_of c.args.chart.now in
    let arcs = arcs_of c.args.chart.now in
    let s = marked (replicate 1024 true) in
    let price = price_at c.by_minutes-prices.result in
    let few = c.args.chart.now.sealed.count in
    let marks : (a : ℕ) → a < length arcs → s a ≡ true = λ a l. get_or-replicate 1024 a true false (omega arith) in
    record {
      amount = amount_minutes n arcs s price marks c.by_minutes-prices.ensures.each c.least_plan.result c.least_plan.ensures.amount;
      plan = c.least_plan.ensures.plan ∙ ap (λ (o : Option (List ℕ)). written o c.args.plan.now) (cheapest_minutes n arcs s price marks c.by_minutes-prices.ensures.each);
    }
