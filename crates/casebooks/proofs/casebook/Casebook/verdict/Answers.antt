use Rattle.std.proofs.Common.{sym, subst}
use Rattle.judging.specs.Theorem.{Posed, Meant}
use Rattle.judging.proofs.Means.{verdict_means}
use Rattle.casebooks.specs.Views.{problem_in, model_in}
use Rattle.casebooks.proofs.Reached.{reached_means}
use Rattle.casebooks.proofs.casebook.Casebook.verdict.Goals as goal

pub returns : goal.returns
returns g c =
    let s = c.args.self.now in
    let t = problem_in g.B.Bank s in
    let posed : Posed t = record { chart = s.desk.chart.sealed; rules = g.B.Bank.within s.bank } in
    record {
      value = c.verdict.ensures;
      theorem = λ calls. verdict_means t posed calls;
      meant = reached_means t posed (model_in s) s.reached;
      here = λ calls e. subst (Meant t) (sym e) (verdict_means t posed calls).1;
    }
