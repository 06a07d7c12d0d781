use Rattle.std.proofs.Common.{length, sym, refl, ap, inl, arith}
use Rattle.lines.specs.Forms.{Casebook}
use Rattle.unsealed.proofs.drafting.Drafting.line.Goals as goal

-- the header's text is the header, and is short
pub returns-then-is_header : goal.returns-then-is_header
returns-then-is_header c =
    let header = c.is_header.ensures.0 c.if-is_header.true in
    record {
      short = λ h. inl (record { form = Casebook; proper = tt; whole = sym header; answer = c.take.ensures.reply Casebook refl; after = c.take.ensures.left Casebook refl });
      long = λ h. absurd (omega (arith, ap length header));
    }
