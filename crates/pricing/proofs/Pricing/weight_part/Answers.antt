use Rattle.through.proofs.Asked.{rule_counted, worth_fits, worth_is}
use Rattle.pricing.proofs.Pricing.weight_part.Goals as goal

pub weight_at-weight-requires-clause-there : goal.weight_at-weight-requires-clause-there
weight_at-weight-requires-clause-there g c = rule_counted (g.B.Bank.rules c.args.self.now.bank.now) c.args.self.now.multipliers.now c.args.self.now.asked c.args.rule c.requires.there

pub overflow_mul-result : goal.overflow_mul-result
overflow_mul-result g c =
    worth_fits (g.B.Bank.rules c.args.self.now.bank.now) c.args.self.now.multipliers.now c.args.self.now.asked (g.B.Bank.within c.args.self.now.bank.now) c.args.rule c.requires.there c.args.arc.place c.args.arc.route c.requires.fit c.weight_at-weight.result c.weight_at-weight.ensures.value

pub returns : goal.returns
returns g c =
    worth_is (g.B.Bank.rules c.args.self.now.bank.now) c.args.self.now.multipliers.now c.args.self.now.asked (g.B.Bank.within c.args.self.now.bank.now) c.args.rule c.requires.there c.args.arc.place c.args.arc.route c.requires.fit c.weight_at-weight.result c.weight_at-weight.ensures.value
