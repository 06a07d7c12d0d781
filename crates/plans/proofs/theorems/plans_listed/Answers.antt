use Rattle.plans.proofs.Listed.{plans_listed}
use Rattle.plans.proofs.theorems.plans_listed.Goals as goal

pub returns : goal.returns
returns c = plans_listed
