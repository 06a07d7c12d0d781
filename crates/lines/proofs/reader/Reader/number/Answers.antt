use Rattle.std.proofs.Common.{◌++◌, decimal, sym, ap, ◌∙◌, subst}
use Rattle.lines.specs.Texts.{Digit, ahead}
use Rattle.lines.proofs.Numerals.{begun, more}
use Rattle.lines.proofs.reader.Reader.number.Goals as goal

pub loop-self-preserved : goal.loop-self-preserved
loop-self-preserved c = more _ _ _ _ _ c.loop-self.invariant c.loop-self-test.ensures c.in-Some.ensures.0 c.in-Some.ensures.1

pub returns-in_default : goal.returns-in_default
returns-in_default c =
    let left = c.in_default.ensures in (
      c.loop-self.invariant.short,
      begun _ _ _ c.in_ok-n.ensures ∙ c.loop-self.invariant.split ∙ ap (λ t. decimal c.loop-self.n ++ t) (sym left.0),
      λ d. absurd (left.1 (subst (λ t. Digit (ahead t)) left.0 d)),
    )

pub returns : goal.returns
returns c = (c.loop-self.invariant.short, begun _ _ _ c.in_ok-n.ensures ∙ c.loop-self.invariant.split, λ d. c.loop-self-test.ensures)
