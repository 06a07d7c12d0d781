use Rattle.lines.specs.Laws.{item_told}
use Rattle.lines.proofs.Halting.{piece_none, piece_some}
use Rattle.lines.proofs.Bodies.{ending}
use Rattle.lines.proofs.reader.Reader.one.Goals as goal

pub returns-in_err-n : goal.returns-in_err-n
returns-in_err-n c = rw c.from_residual.ensures (piece_none item_told (λ _. ending) c.in_err-n.ensures)

pub returns-in_err-finish : goal.returns-in_err-finish
returns-in_err-finish c = rw c.from_residual-in_err-finish.ensures (piece_some item_told (λ _. ending) _ c.in_ok-n.ensures c.in_err-finish.ensures)
