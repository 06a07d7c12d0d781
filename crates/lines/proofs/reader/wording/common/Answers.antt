use Rattle.std.proofs.Common.{◌∙◌, sym, subst, rules, tests}
use Rattle.std.proofs.lemmas.Iterator.{YieldsList-from_slice, YieldsList-from_zip}
use Rattle.std.proofs.lemmas.Iterator.Consumers.{count_from_yields_List}
use Rattle.std.proofs.lemmas.Iterator.Search.{YieldsList-from_take_while}
use Rattle.std.proofs.lemmas.List.Folds.{length-prefix_len}
use Rattle.std.specs.List.{zip}
use Rattle.lines.specs.Texts.{Shared}
use Rattle.lines.proofs.Wording.{shared, tie}
use Rattle.lines.proofs.reader.wording.common.Goals as goal

pub returns : goal.returns
returns c =
    let t = c.args.text.now in
    let w = c.args.word.now in
    subst (Shared t w)
    (sym (count_from_yields_List c.take_while.result _ c.count.ensures.ran
    (YieldsList-from_take_while _ tie (YieldsList-from_zip (YieldsList-from_slice t (cc)) (YieldsList-from_slice w (cc))) c.take_while.ensures.closure c.take_while.ensures.done (λ x b q k. search (rules, tests)))
    ∙ length-prefix_len tie (zip t w)))
    (shared t w)
