use Rattle.judging.proofs.Means.{verdict_means}
use Rattle.judging.proofs.theorems.verdict_means.Goals as goal

pub returns : goal.returns
returns c = verdict_means
