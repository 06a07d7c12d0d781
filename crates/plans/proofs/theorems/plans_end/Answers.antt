use Rattle.plans.proofs.Ends.{plans_end}
use Rattle.plans.proofs.theorems.plans_end.Goals as goal

pub returns : goal.returns
returns c = plans_end
