use Rattle.lines.specs.Laws.{number_told, item_told}
use Rattle.lines.specs.Texts.{Open, Item, Piece}
use Rattle.lines.specs.Forms.{amount, ShortZ}
use Rattle.lines.proofs.Halting.{Follows, byte_none, byte_some, piece_none, piece_some, open_follows}
use Rattle.lines.proofs.Pieces.{as_triple, number_halts, number_live, item_follows, amount_follows}
use Rattle.lines.proofs.reader.Reader.triple.Goals as goal

-- what follows the route
weight : Follows (Piece amount ShortZ (λ _. Open))
weight = amount_follows Open open_follows.live

-- what follows the place
route : Follows (Item (Piece amount ShortZ (λ _. Open)))
route = item_follows _ weight.live

pub returns-in_err-pass : goal.returns-in_err-pass
returns-in_err-pass c = rw c.from_residual.ensures (as_triple Open (byte_none (number_live _ route.live) c.in_err-pass.ensures))

pub returns-in_err-place : goal.returns-in_err-place
returns-in_err-place c = rw c.from_residual-in_err-place.ensures (as_triple Open (byte_some c.in_ok-pass.ensures (piece_none number_told (λ _. route) (number_halts c.in_err-place.ensures))))

pub returns-in_err-route : goal.returns-in_err-route
returns-in_err-route c =
    rw c.from_residual-in_err-route.ensures
    (as_triple Open (byte_some c.in_ok-pass.ensures (piece_some number_told (λ _. route) _ c.in_ok-place.ensures
    (piece_none item_told (λ _. weight) c.in_err-route.ensures))))

pub returns-in_err-weight : goal.returns-in_err-weight
returns-in_err-weight c =
    rw c.from_residual-in_err-weight.ensures
    (as_triple Open (byte_some c.in_ok-pass.ensures (piece_some number_told (λ _. route) _ c.in_ok-place.ensures
    (piece_some item_told (λ _. weight) _ c.in_ok-route.ensures c.in_err-weight.ensures))))
