use Rattle.std.proofs.Common.{ap}
use Rattle.terms.specs.declared.rule.Head.{Head}
use Rattle.through.proofs.Asked.{rule_counted, limit_fits, owed_fits, owed_is}
use Rattle.pricing.proofs.Pricing.limit_part.Goals as goal

pub head_at-limit-requires : goal.head_at-limit-requires
head_at-limit-requires g c = rule_counted (g.B.Bank.rules c.args.self.now.bank.now) c.args.self.now.multipliers.now c.args.self.now.asked c.args.rule c.requires

pub overflow_mul-result : goal.overflow_mul-result
overflow_mul-result g c =
    limit_fits (g.B.Bank.rules c.args.self.now.bank.now) c.args.self.now.multipliers.now c.args.self.now.asked (g.B.Bank.within c.args.self.now.bank.now) c.args.rule c.requires c.head_at-limit.result.limit (ap (λ (h : Head). h.limit) c.head_at-limit.ensures.value)

pub overflow_sub-result : goal.overflow_sub-result
overflow_sub-result g c =
    owed_fits (g.B.Bank.rules c.args.self.now.bank.now) c.args.self.now.multipliers.now c.args.self.now.asked (g.B.Bank.within c.args.self.now.bank.now) c.args.rule c.requires c.head_at-limit.result.limit (ap (λ (h : Head). h.limit) c.head_at-limit.ensures.value)

pub returns : goal.returns
returns g c =
    owed_is (g.B.Bank.rules c.args.self.now.bank.now) c.args.self.now.multipliers.now c.args.self.now.asked (g.B.Bank.within c.args.self.now.bank.now) c.args.rule c.requires c.head_at-limit.result.limit (ap (λ (h : Head). h.limit) c.head_at-limit.ensures.value)
