use Rattle.std.proofs.Common.{refl, ap, arith}
use Rattle.lines.specs.Texts.{ahead}
use Rattle.lines.proofs.Numerals.{stepped}
use Rattle.lines.proofs.Pieces.{number_halts}
use Rattle.lines.proofs.Listing.{list_empty, list_none, list_some}
use Rattle.lines.proofs.reader.Reader.list.Goals as goal

pub returns-in_err-peek : goal.returns-in_err-peek
returns-in_err-peek c = rw c.from_residual.ensures (list_none _ _ (λ e. omega (arith, ap ahead c.in_err-peek.ensures)) (number_halts (refl, λ d. omega (arith, ap ahead c.in_err-peek.ensures))))

pub returns-in-41 : goal.returns-in-41
returns-in-41 c = list_empty c.finish.result _ c.skip.new.self.rest.now _ (stepped _ _ 41 _ c.in_ok-peek.ensures c.in-41.is c.skip.ensures) c.finish.ensures

pub returns-in_err-number-in_default : goal.returns-in_err-number-in_default
returns-in_err-number-in_default c = rw c.from_residual-in_err-number-in_default.ensures (list_none _ _ (λ e. omega (arith, ap ahead c.in_ok-peek.ensures)) (number_halts c.in_err-number-in_default.ensures))

pub returns-in_ok-number-in_default : goal.returns-in_ok-number-in_default
returns-in_ok-number-in_default c = list_some c.many.result _ _ c.number.new.self.rest.now _ (λ e. omega (arith, ap ahead c.in_ok-peek.ensures)) c.in_ok-number-in_default.ensures c.many.ensures
