use Rattle.piles.proofs.Marking.{filled}
use Rattle.piles.proofs.pile.Marks.blank.Goals as goal

pub returns : goal.returns
returns c = filled 1024 0
