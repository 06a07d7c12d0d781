use Rattle.lines.specs.Laws.{signed_told}
use Rattle.std.proofs.Common.{arith}
use Rattle.lines.specs.Texts.{Open, Byte}
use Rattle.lines.proofs.Halting.{Follows, byte_none, byte_some, byte_follows, piece_none, piece_some, open_follows}
use Rattle.lines.proofs.Pieces.{as_amount, signed_live}
use Rattle.lines.proofs.reader.Reader.amount.Goals as goal

-- the bracket may stand after a number
close : Follows (Byte 41 Open)
close = byte_follows 41 Open (λ d. omega arith) open_follows.live

pub returns-in_err-blank : goal.returns-in_err-blank
returns-in_err-blank c = rw c.from_residual.ensures (as_amount Open (byte_none (signed_live _ close.live) c.in_err-blank.ensures))

pub returns-in_err-amount : goal.returns-in_err-amount
returns-in_err-amount c = rw c.from_residual-in_err-amount.ensures (as_amount Open (byte_some c.in_ok-blank.ensures (piece_none signed_told (λ _. close) c.in_err-amount.ensures)))

pub returns-in_err-pass : goal.returns-in_err-pass
returns-in_err-pass c =
    rw c.from_residual-in_err-pass.ensures
    (as_amount Open (byte_some c.in_ok-blank.ensures (piece_some signed_told (λ _. close) _ c.in_ok-amount.ensures
    (byte_none open_follows.live c.in_err-pass.ensures))))
