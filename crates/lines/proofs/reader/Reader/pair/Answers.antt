use Rattle.lines.specs.Laws.{number_told}
use Rattle.lines.specs.Texts.{Open}
use Rattle.lines.proofs.Halting.{byte_none, byte_some, piece_none, piece_some, open_follows}
use Rattle.lines.proofs.Pieces.{as_pair, number_halts, number_live, amount_follows}
use Rattle.lines.proofs.reader.Reader.pair.Goals as goal

pub returns-in_err-pass : goal.returns-in_err-pass
returns-in_err-pass c = rw c.from_residual.ensures (as_pair Open (byte_none (number_live _ (amount_follows Open open_follows.live).live) c.in_err-pass.ensures))

pub returns-in_err-rule : goal.returns-in_err-rule
returns-in_err-rule c = rw c.from_residual-in_err-rule.ensures (as_pair Open (byte_some c.in_ok-pass.ensures (piece_none number_told (λ _. amount_follows Open open_follows.live) (number_halts c.in_err-rule.ensures))))

pub returns-in_err-multiplier : goal.returns-in_err-multiplier
returns-in_err-multiplier c =
    rw c.from_residual-in_err-multiplier.ensures
    (as_pair Open (byte_some c.in_ok-pass.ensures (piece_some number_told (λ _. amount_follows Open open_follows.live) _ c.in_ok-rule.ensures
    c.in_err-multiplier.ensures)))
