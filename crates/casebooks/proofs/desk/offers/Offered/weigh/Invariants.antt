use Rattle.std.proofs.Common.{◌≡◌, ◌*◌, ◌≤◌, get_or, take, nat_abs}
use Rattle.charts.specs.Drafts.{arcs_of}
use Rattle.rules.specs.Rules.{no_rule}
use Rattle.rules.specs.Lawful.{weighed}
use Rattle.casebooks.proofs.desk.offers.Offered.weigh.Given as goal

-- the sum over the arcs behind, which is not large
abbrev pub invariant-loop-number : goal.invariant-loop-number
invariant-loop-number g l =
    (l.sum ≡ weighed (arcs_of l.self.chart.now) (get_or (g.B.Bank.rules l.bank) l.rule no_rule) (take l.number-index l.self.plan.now))
    × (nat_abs l.sum ≤ 10000 * l.number-index)
