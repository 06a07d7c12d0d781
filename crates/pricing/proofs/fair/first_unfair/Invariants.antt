use Rattle.std.proofs.Common.{◌≡◌, ℕ, ◌<◌, true, get_or, pos}
use Rattle.rules.specs.Rules.{no_rule}
use Rattle.amounts.specs.Multipliers.{fair}
use Rattle.pricing.proofs.fair.first_unfair.Given as goal

-- the rules behind have fair multipliers
abbrev pub invariant-loop-rule : goal.invariant-loop-rule
invariant-loop-rule g l =
    (k : ℕ) → k < l.rule → fair (get_or (g.B.Bank.rules l.bank) k no_rule).sense (get_or l.multipliers k (pos 0)) ≡ true
