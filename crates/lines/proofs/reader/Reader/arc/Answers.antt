use Rattle.lines.specs.Laws.{item_told}
use Rattle.lines.proofs.Halting.{piece_none, piece_some}
use Rattle.lines.proofs.Bodies.{two, three, four}
use Rattle.lines.proofs.reader.Reader.arc.Goals as goal

pub returns-in_err-place : goal.returns-in_err-place
returns-in_err-place c = rw c.from_residual.ensures (piece_none item_told (λ _. four) c.in_err-place.ensures)

pub returns-in_err-start : goal.returns-in_err-start
returns-in_err-start c =
    rw c.from_residual-in_err-start.ensures
    (piece_some item_told (λ _. four) _ c.in_ok-place.ensures (piece_none item_told (λ _. three) c.in_err-start.ensures))

pub returns-in_err-end : goal.returns-in_err-end
returns-in_err-end c =
    rw c.from_residual-in_err-end.ensures
    (piece_some item_told (λ _. four) _ c.in_ok-place.ensures (piece_some item_told (λ _. three) _ c.in_ok-start.ensures
    (piece_none item_told (λ _. two) c.in_err-end.ensures)))

pub returns-in_err-route : goal.returns-in_err-route
returns-in_err-route c =
    rw c.from_residual-in_err-route.ensures
    (piece_some item_told (λ _. four) _ c.in_ok-place.ensures (piece_some item_told (λ _. three) _ c.in_ok-start.ensures
    (piece_some item_told (λ _. two) _ c.in_ok-end.ensures c.in_err-route.ensures)))
