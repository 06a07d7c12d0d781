use Rattle.std.proofs.Common.{ap, arith}
use Rattle.lines.specs.Texts.{ahead}
use Rattle.lines.proofs.Numerals.{stepped}
use Rattle.lines.proofs.Listing.{goes_more, at_item, at_neither, at_bracket}
use Rattle.lines.proofs.reader.Reader.many.Goals as goal

pub loop-self-preserved : goal.loop-self-preserved
loop-self-preserved g c = let laws = g.met.T.LineItem.lawful in goes_more laws.told laws.some c.args.after.now _ _ c.loop-self.invariant _ c.skip.new.self.rest.now _ (stepped _ _ 32 _ c.in_ok-peek.ensures c.in-32.is c.skip.ensures) c.in_ok-read-in-32.ensures

pub returns-in_err-peek : goal.returns-in_err-peek
returns-in_err-peek g c = let laws = g.met.T.LineItem.lawful in rw c.from_residual.ensures (at_neither laws.told laws.some c.args.after.now _ _ c.loop-self.invariant (λ e. omega (arith, ap ahead c.in_err-peek.ensures)) (λ e. omega (arith, ap ahead c.in_err-peek.ensures)))

pub returns-in_err-read-in-32 : goal.returns-in_err-read-in-32
returns-in_err-read-in-32 g c = let laws = g.met.T.LineItem.lawful in rw c.from_residual-in_err-read-in-32.ensures (at_item laws.told laws.some c.args.after.now _ _ c.loop-self.invariant c.skip.new.self.rest.now _ (stepped _ _ 32 _ c.in_ok-peek.ensures c.in-32.is c.skip.ensures) c.in_err-read-in-32.ensures)

pub returns-in_default : goal.returns-in_default
returns-in_default g c = let laws = g.met.T.LineItem.lawful in at_neither laws.told laws.some c.args.after.now _ _ c.loop-self.invariant (λ e. omega (arith, ap ahead c.in_ok-peek.ensures)) (λ e. omega (arith, ap ahead c.in_ok-peek.ensures))

pub returns-in-41 : goal.returns-in-41
returns-in-41 g c = let laws = g.met.T.LineItem.lawful in at_bracket laws.told laws.some c.args.after.now _ _ c.loop-self.invariant c.literal.result c.skip-in-41.new.self.rest.now _ (stepped _ _ 41 _ c.in_ok-peek.ensures c.in-41.is c.skip-in-41.ensures) c.literal.ensures
