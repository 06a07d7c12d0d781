use Rattle.std.proofs.Common.{ap, ◌∙◌, ap₂, w64, SFits, rules}
use Rattle.std.proofs.lemmas.Int.{to_z-of_z}
use Rattle.plans.specs.Cases.{Case}
use Rattle.judging.specs.Cases.{least, top}
use Rattle.judging.specs.Calls.{undercut}
use Rattle.casebooks.specs.Desks.{problem_of, model_of}
use Rattle.casebooks.proofs.Working.{same_case}
use Rattle.casebooks.proofs.desk.Desk.undercut.Goals as goal

pub returns : goal.returns
returns g c =
    let d = c.args.self.now in
    let t = problem_of d (g.B.Bank.rules c.args.pricing.now.bank.now) in
    let zs = c.args.pricing.now.multipliers.now in
    let f : SFits w64 c.mark.result = search rules in
    let at = to_z-of_z w64 c.mark.result f ∙ c.mark.ensures in
    let same = same_case c.working-standing.result (top (model_of d).pile) c.working-standing.ensures.each in
    c.below.ensures ∙ ap₂ undercut at (c.least_amount.ensures ∙ ap (λ (s : Case). least t zs s) same)
