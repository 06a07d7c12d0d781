use Rattle.std.proofs.Common.{◌≡◌, ◌*◌, get_or, pos, ◌+ℤ◌}
use Rattle.amounts.specs.Sums.{sum_to, worth_of}
use Rattle.pricing.proofs.Pricing.arc_price.Given as goal

-- the price as far as the rules behind make it
abbrev pub invariant-loop-rule : goal.invariant-loop-rule
invariant-loop-rule g l =
    l.price ≡ pos (1000 * l.arc.minutes) +ℤ sum_to (λ j. worth_of (g.B.Bank.rules l.self.bank.now) l.self.multipliers.now l.arc.place l.arc.route (get_or l.rule-items j 0)) l.rule-index
