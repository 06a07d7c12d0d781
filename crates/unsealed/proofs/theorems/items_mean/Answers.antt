use Rattle.unsealed.proofs.Meant.{items_mean}
use Rattle.unsealed.proofs.theorems.items_mean.Goals as goal

pub returns : goal.returns
returns c = items_mean
