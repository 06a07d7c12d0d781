use Rattle.std.proofs.Common.{ap, ◌∙◌}
use Rattle.plans.specs.Cases.{Case}
use Rattle.plans.specs.Firsts.{written}
use Rattle.judging.specs.Cases.{first_plan, least, top}
use Rattle.casebooks.specs.Desks.{problem_of, model_of}
use Rattle.casebooks.proofs.Working.{same_case}
use Rattle.casebooks.proofs.desk.Desk.priced.Goals as goal

pub returns : goal.returns
returns g c =
    let d = c.args.self.now in
    let t = problem_of d (g.B.Bank.rules c.args.pricing.now.bank.now) in
    let zs = c.args.pricing.now.multipliers.now in
    let same = same_case c.working-standing.result (top (model_of d).pile) c.working-standing.ensures.each in
    record {
      amount = c.priced_plan.ensures.amount ∙ ap (λ (s : Case). least t zs s) same;
      plan = c.priced_plan.ensures.plan ∙ ap (λ (s : Case). written (first_plan t zs s) c.args.plan.now) same;
    }
