use Rattle.lines.specs.Laws.{item_told}
use Rattle.lines.proofs.Halting.{piece_none, piece_some}
use Rattle.lines.proofs.Listing.{routes_follows}
use Rattle.lines.proofs.reader.Reader.split.Goals as goal

pub returns-in_err-place : goal.returns-in_err-place
returns-in_err-place c = rw c.from_residual.ensures (piece_none item_told (λ _. routes_follows) c.in_err-place.ensures)

pub returns-in_err-routes : goal.returns-in_err-routes
returns-in_err-routes c = rw c.from_residual-in_err-routes.ensures (piece_some item_told (λ _. routes_follows) _ c.in_ok-place.ensures c.in_err-routes.ensures)
