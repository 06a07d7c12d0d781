use Rattle.amounts.proofs.Sizes.{amounts_small}
use Rattle.amounts.proofs.theorems.amounts_small.Goals as goal

pub returns : goal.returns
returns c = amounts_small
