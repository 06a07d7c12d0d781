use Rattle.judging.proofs.Room.{never_full}
use Rattle.judging.proofs.theorems.never_full.Goals as goal

pub returns : goal.returns
returns c = never_full
