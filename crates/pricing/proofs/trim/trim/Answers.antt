use Rattle.std.proofs.Common.{◌∙◌, replicate, pos, rules}
use Rattle.plans.specs.Cases.{on_some}
use Rattle.charts.specs.Drafts.{places_of, arcs_of}
use Rattle.ways.specs.Amounts.{marked, price_at}
use Rattle.sweeps.proofs.Alike.{unpriced}
use Rattle.through.proofs.Keeping.{reached_is}
use Rattle.pricing.specs.Answers.{standing_on}
use Rattle.pricing.proofs.trim.trim.Goals as goal

pub sift-requires-clause-fit : goal.sift-requires-clause-fit
sift-requires-clause-fit c = unpriced (arcs_of c.args.chart.now) c.args.standing.now 1024 c.requires c.args.chart.now.sealed.count

pub returns : goal.returns
returns c =
    c.sift.ensures (on_some (standing_on c.args.chart.now c.args.standing.now)) (λ a r l stood says.
    search (says, rules) ∙ reached_is (places_of c.args.chart.now) (arcs_of c.args.chart.now) c.args.chart.now.sealed (marked c.args.standing.now) (price_at (replicate 1024 (pos 0))) a l stood)
