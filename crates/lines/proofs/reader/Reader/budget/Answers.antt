use Rattle.lines.proofs.Halting.{byte_none, byte_some, piece_none, piece_some}
use Rattle.lines.specs.Laws.{signed_told}
use Rattle.lines.proofs.Bodies.{triples_follow, limit_live}
use Rattle.lines.proofs.reader.Reader.budget.Goals as goal

pub returns-in_err-blank : goal.returns-in_err-blank
returns-in_err-blank c = rw c.from_residual.ensures (byte_none limit_live c.in_err-blank.ensures)

pub returns-in_err-limit : goal.returns-in_err-limit
returns-in_err-limit c = rw c.from_residual-in_err-limit.ensures (byte_some c.in_ok-blank.ensures (piece_none signed_told (λ _. triples_follow) c.in_err-limit.ensures))

pub returns-in_err-entries : goal.returns-in_err-entries
returns-in_err-entries c =
    rw c.from_residual-in_err-entries.ensures
    (byte_some c.in_ok-blank.ensures (piece_some signed_told (λ _. triples_follow) _ c.in_ok-limit.ensures c.in_err-entries.ensures))
