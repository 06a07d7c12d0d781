use Rattle.std.proofs.Common.{arith}
use Rattle.amounts.proofs.Lowest.{fair_length}
use Rattle.pricing.proofs.Pricing.new.Goals as goal

pub active_rules-requires : goal.active_rules-requires
active_rules-requires g c =
    omega (arith, c.requires.few, fair_length (g.B.Bank.rules c.args.bank.now) c.args.multipliers.now c.requires.fair)
