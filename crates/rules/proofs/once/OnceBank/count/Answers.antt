use Rattle.std.proofs.Common.{rules}
use Rattle.rules.proofs.Rising.{once_counted}
use Rattle.rules.proofs.once.OnceBank.count.Goals as goal

pub returns : goal.returns
returns c = search (rules, once_counted)
