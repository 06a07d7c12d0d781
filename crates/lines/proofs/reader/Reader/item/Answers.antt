use Rattle.lines.specs.Texts.{Open}
use Rattle.lines.proofs.Halting.{byte_none, open_follows}
use Rattle.lines.proofs.Pieces.{as_item, number_live, item_takes}
use Rattle.lines.proofs.reader.Reader.item.Goals as goal

pub returns-in_err-blank : goal.returns-in_err-blank
returns-in_err-blank c = rw c.from_residual.ensures (as_item Open (byte_none (number_live Open open_follows.live) c.in_err-blank.ensures))

pub returns : goal.returns
returns c = item_takes c.number.result _ _ _ c.in_ok-blank.ensures c.number.ensures
