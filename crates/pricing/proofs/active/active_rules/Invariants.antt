use Rattle.std.proofs.Common.{◌≡◌}
use Rattle.through.specs.Pricings.{counting_below}
use Rattle.pricing.proofs.active.active_rules.Given as goal

-- the rules behind are counted
abbrev pub invariant-loop-rule : goal.invariant-loop-rule
invariant-loop-rule l = l.active.items ≡ counting_below l.multipliers l.rule
