use Rattle.std.proofs.Common.{rules}
use Rattle.rules.proofs.Rising.{once_head}
use Rattle.rules.proofs.once.OnceBank.head.Goals as goal

pub returns : goal.returns
returns c = search (rules, once_head)
