use Rattle.std.proofs.Common.{◌≡◌, get_or}
use Rattle.amounts.specs.Sums.{sum_to, owed_of}
use Rattle.pricing.proofs.Pricing.limits_share.Given as goal

-- the share as far as the rules behind make it
abbrev pub invariant-loop-rule : goal.invariant-loop-rule
invariant-loop-rule g l =
    l.share ≡ sum_to (λ j. owed_of (g.B.Bank.rules l.self.bank.now) l.self.multipliers.now (get_or l.rule-items j 0)) l.rule-index
