use Rattle.std.proofs.Common.{ap, arith}
use Rattle.lines.specs.Texts.{ahead}
use Rattle.lines.proofs.Numerals.{stepped}
use Rattle.lines.proofs.Forming.{bracket_none, word_none, word_some}
use Rattle.lines.proofs.reader.Reader.form.Goals as goal

pub returns-in_err-peek : goal.returns-in_err-peek
returns-in_err-peek c = rw c.from_residual.ensures (bracket_none _ (λ e. omega (arith, ap ahead c.in_err-peek.ensures)))

pub returns-in_default : goal.returns-in_default
returns-in_default c = bracket_none _ (λ e. omega (arith, ap ahead c.in_ok-peek.ensures))

pub returns-in_err-word-in-40 : goal.returns-in_err-word-in-40
returns-in_err-word-in-40 c = rw c.from_residual-in_err-word-in-40.ensures (word_none _ c.skip.new.self.rest.now _ (stepped _ _ 40 _ c.in_ok-peek.ensures c.in-40.is c.skip.ensures) c.in_err-word-in-40.ensures)

pub returns-in_ok-word-in-40 : goal.returns-in_ok-word-in-40
returns-in_ok-word-in-40 c = word_some c.items.result _ _ c.skip.new.self.rest.now c.word.new.self.rest.now _ (stepped _ _ 40 _ c.in_ok-peek.ensures c.in-40.is c.skip.ensures) c.in_ok-word-in-40.ensures c.items.ensures
