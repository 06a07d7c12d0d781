use Rattle.amounts.proofs.Priced.{never_overpriced}
use Rattle.amounts.proofs.theorems.never_overpriced.Goals as goal

pub returns : goal.returns
returns c = never_overpriced
