use Rattle.lines.specs.Laws.{item_told}
use Rattle.lines.proofs.Halting.{piece_none, piece_some}
use Rattle.lines.proofs.Bodies.{one}
use Rattle.lines.proofs.reader.Reader.two.Goals as goal

pub returns-in_err-first : goal.returns-in_err-first
returns-in_err-first c = rw c.from_residual.ensures (piece_none item_told (λ _. one) c.in_err-first.ensures)

pub returns-in_err-second : goal.returns-in_err-second
returns-in_err-second c = rw c.from_residual-in_err-second.ensures (piece_some item_told (λ _. one) _ c.in_ok-first.ensures c.in_err-second.ensures)
