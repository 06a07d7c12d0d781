use Rattle.std.proofs.Common.{drop, ap, ◌∙◌}
use Rattle.lines.proofs.Yielding.{none_read, one_read}
use Rattle.lines.proofs.form.next.ItemsIterator.next.Goals as goal

pub returns-in_err-item-clause-steps : goal.returns-in_err-item-clause-steps
returns-in_err-item-clause-steps g c = rw c.from_residual.ensures (none_read g.met.T.LineItem.lawful _ c.skip.new.self.rest.now _ (c.skip.ensures ∙ ap (drop 1) c.new-reader.ensures) c.in_err-item.ensures)

pub returns-clause-steps : goal.returns-clause-steps
returns-clause-steps g c = one_read g.met.T.LineItem.lawful _ _ c.skip.new.self.rest.now _ (c.skip.ensures ∙ ap (drop 1) c.new-reader.ensures) c.in_ok-item.ensures
