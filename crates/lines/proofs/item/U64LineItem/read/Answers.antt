use Rattle.lines.proofs.Pieces.{number_takes}
use Rattle.lines.proofs.item.U64LineItem.read.Goals as goal

pub returns : goal.returns
returns c = number_takes _ _ c.number.result c.number.ensures
