use Rattle.std.proofs.Common.{◌≡◌, ℕ, ◌<◌, true, get_or}
use Rattle.charts.specs.Drafts.{arcs_of}
use Rattle.rules.specs.Rules.{no_rule}
use Rattle.rules.specs.Lawful.{holds}
use Rattle.casebooks.proofs.desk.offers.Offered.first_broken.Given as goal

-- the rules behind hold
abbrev pub invariant-loop-rule : goal.invariant-loop-rule
invariant-loop-rule g l =
    (k : ℕ) → k < l.rule → holds (arcs_of l.self.chart.now) l.self.plan.now (get_or (g.B.Bank.rules l.bank) k no_rule) ≡ true
