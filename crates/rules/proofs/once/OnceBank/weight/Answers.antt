use Rattle.std.proofs.Common.{rules}
use Rattle.rules.proofs.Rising.{once_weight}
use Rattle.rules.proofs.once.OnceBank.weight.Goals as goal

pub returns : goal.returns
returns c = search (rules, once_weight)
