use Rattle.std.proofs.Common.{rules}
use Rattle.judging.specs.Calls.{claim}
use Rattle.casebooks.specs.Views.{problem_in, model_in}
use Rattle.casebooks.proofs.Reached.{one_more}
use Rattle.casebooks.proofs.casebook.Casebook.claim.Goals as goal

pub invariant_of-self : goal.invariant_of-self
invariant_of-self g c =
    let s = c.args.self.now in
    record { reached = one_more (problem_in g.B.Bank s) _ (model_in s) _ (claim c.args.minutes) (search rules) (search rules) s.reached }
