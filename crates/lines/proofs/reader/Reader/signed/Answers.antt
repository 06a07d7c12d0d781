use Rattle.std.proofs.Common.{refl, ap, arith}
use Rattle.lines.specs.Texts.{Open, ahead}
use Rattle.lines.proofs.Numerals.{stepped, minus}
use Rattle.lines.proofs.Halting.{open_follows}
use Rattle.lines.proofs.Pieces.{minus_none, signed_none, number_halts}
use Rattle.lines.proofs.reader.Reader.signed.Goals as goal

pub returns-in_err-peek : goal.returns-in_err-peek
returns-in_err-peek c = rw c.from_residual.ensures (signed_none Open _ _ (λ e. omega (arith, ap ahead c.in_err-peek.ensures)) (number_halts (refl, λ d. omega (arith, ap ahead c.in_err-peek.ensures))))

pub returns-then-not-leads : goal.returns-then-not-leads
returns-then-not-leads c = minus_none Open _ _ open_follows.live (stepped _ _ 45 _ c.in_ok-peek.ensures c.in-45.is c.skip.ensures) c.if-not-leads.ensures

pub returns-in_err-n-in_default : goal.returns-in_err-n-in_default
returns-in_err-n-in_default c = rw c.from_residual-in_err-n-in_default.ensures (signed_none Open _ _ (λ e. omega (arith, ap ahead c.in_ok-peek.ensures)) (number_halts c.in_err-n-in_default.ensures))

pub returns-in_ok-n-in-45 : goal.returns-in_ok-n-in-45
returns-in_ok-n-in-45 c =
    let h = c.in_ok-n-in-45.ensures in
    minus c.args.self.now.rest.now c.skip.new.self.rest.now c.number.new.self.rest.now c.in_ok-n-in-45.n (stepped _ _ 45 _ c.in_ok-peek.ensures c.in-45.is c.skip.ensures) c.if-not-leads.ensures.0 h.0 h.1 h.2
