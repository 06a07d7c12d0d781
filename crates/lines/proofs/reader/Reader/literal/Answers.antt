use Rattle.std.proofs.Common.{◌++◌, sym, ap, ◌∙◌, subst, arith}
use Rattle.std.proofs.lemmas.List.{take_rest}
use Rattle.lines.specs.Texts.{Halts, Is}
use Rattle.lines.proofs.Wording.{literal_none, literal_some, found}
use Rattle.lines.proofs.reader.Reader.literal.Goals as goal

pub returns-then-n-text : goal.returns-then-n-text
returns-then-n-text c =
    let l = c.args.self.now.rest.now in
    let p = c.args.text.now in
    let n = c.common-n.result in
    literal_some c.end.result l p _ _ (found l p n c.common-n.ensures.same c.if-n-text.true ∙ ap (λ t. p ++ t) (sym (take_rest l n))) c.end.ensures

pub returns-else-n-text : goal.returns-else-n-text
returns-else-n-text c =
    let l = c.args.self.now.rest.now in
    let p = c.args.text.now in
    let n = c.common-n.result in
    subst (Halts (Is p) l) (sym (take_rest l n))
    (literal_none l p n c.common-n.ensures (omega (arith, c.common-n.ensures.in_word, c.if-n-text.false)))
