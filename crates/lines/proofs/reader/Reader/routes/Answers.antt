use Rattle.lines.proofs.Halting.{byte_none, byte_some}
use Rattle.lines.proofs.Listing.{bracket_live, listed_live}
use Rattle.lines.proofs.reader.Reader.routes.Goals as goal

pub returns-in_err-blank : goal.returns-in_err-blank
returns-in_err-blank c = rw c.from_residual.ensures (byte_none bracket_live c.in_err-blank.ensures)

pub returns-in_err-pass : goal.returns-in_err-pass
returns-in_err-pass c = rw c.from_residual-in_err-pass.ensures (byte_some c.in_ok-blank.ensures (byte_none listed_live c.in_err-pass.ensures))

pub returns-in_err-list : goal.returns-in_err-list
returns-in_err-list c = rw c.from_residual-in_err-list.ensures (byte_some c.in_ok-blank.ensures (byte_some c.in_ok-pass.ensures c.in_err-list.ensures))
