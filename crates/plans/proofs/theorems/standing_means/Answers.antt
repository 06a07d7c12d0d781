use Rattle.plans.proofs.Standing.{standing_means}
use Rattle.plans.proofs.theorems.standing_means.Goals as goal

pub returns : goal.returns
returns c = standing_means
