use Rattle.std.proofs.Common.{ℕ, List, ℤ, ap, ◌∙◌, rules}
use Rattle.lines.specs.Cursors.{HoldsPairs}
use Rattle.judging.specs.Calls.{on_strike}
use Rattle.casebooks.specs.Views.{problem_in, model_in}
use Rattle.dossiers.specs.Tolds.{replied_by, count_told}
use Rattle.dossiers.specs.Works.{naming, counting}
use Rattle.dossiers.proofs.Worked.{Made, with_named}
use Rattle.dossiers.proofs.working.strike.Goals as goal

pub returns : goal.returns
returns g c =
    let t = problem_in g.B.Bank c.args.book.now in
    let m = model_in c.args.book.now in
    let made : (xs : List (ℕ × ℤ)) → HoldsPairs xs c.args.items → Made (naming t m xs (λ zs. counting (on_strike t m zs))) (replied_by c.map.result) (model_in c.strike.new.self) =
    λ xs h. with_named t m xs c.rule_count.result c.in_ok-multipliers.multipliers c.deref.result.now (λ zs. counting (on_strike t m zs)) c.rule_count.ensures (c.in_ok-multipliers.ensures xs h) c.deref.ensures.0
    (record { reply = (search rules) ∙ ap count_told c.strike.ensures.reply; left = c.strike.ensures.left }) in
    record { reply = λ xs h. (made xs h).reply; left = λ xs h. (made xs h).left; same = c.strike.ensures.same }
