use Rattle.std.proofs.Common.{◌≡◌, ◌<◌, length, drop, refl, subst, arith}
use Rattle.std.proofs.lemmas.List.{take_rest}
use Rattle.lines.specs.Texts.{Shared}
use Rattle.lines.proofs.Halting.{halt_at}
use Rattle.lines.proofs.Wording.{AnyWord, Tried, tried_none, tried_more, tried_all}
use Rattle.lines.proofs.reader.Reader.word.Goals as goal

pub loop-word-init : goal.loop-word-init
loop-word-init c = (refl, tried_none _)

pub loop-word-preserved : goal.loop-word-preserved
loop-word-preserved c =
    let e = c.spelling-spelling.ensures in (
      c.loop-word.invariant.0,
      tried_more _ _ c.loop-word.best c.common-n.result _ c.loop-word.invariant.1 (subst (λ p. Shared c.loop-word.self.rest.now p c.common-n.result) e c.common-n.ensures)
          (subst (λ p. c.common-n.result < length p) e (omega (arith, c.common-n.ensures.in_word, c.if-n-spelling.false))) c.max-best.ensures,
    )

pub returns : goal.returns
returns c =
    let every : c.loop-word.word-index ≡ 16 = omega arith in
    halt_at AnyWord _ c.loop-word.self.rest.now _ (drop c.loop-word.best c.loop-word.self.rest.now) c.loop-word.invariant.0 (take_rest c.loop-word.self.rest.now c.loop-word.best)
    (tried_all _ _ (subst (λ i. Tried i c.loop-word.self.rest.now c.loop-word.best) every c.loop-word.invariant.1))
