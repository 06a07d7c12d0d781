use Rattle.judging.proofs.Answered.{answers_mean}
use Rattle.judging.proofs.theorems.answers_mean.Goals as goal

pub returns : goal.returns
returns c = answers_mean
