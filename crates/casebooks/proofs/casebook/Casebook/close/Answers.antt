use Rattle.std.proofs.Common.{rules}
use Rattle.judging.specs.Calls.{close}
use Rattle.casebooks.specs.Views.{problem_in, model_in}
use Rattle.casebooks.proofs.Reached.{one_more}
use Rattle.casebooks.proofs.casebook.Casebook.close.Goals as goal

pub invariant_of-self-2 : goal.invariant_of-self-2
invariant_of-self-2 g c =
    let s = c.args.self.now in
    record { reached = one_more (problem_in g.B.Bank s) _ (model_in s) _ (close c.args.multipliers.now) (search rules) (search rules) s.reached }
