use Rattle.std.proofs.Common.{get_or, pos, sym, ap, ◌∙◌, arith, w64, SFits, rules}
use Rattle.std.proofs.lemmas.Int.{to_z-of_z}
use Rattle.rules.specs.Rules.{no_rule}
use Rattle.amounts.specs.Multipliers.{fair}
use Rattle.amounts.proofs.Lowest.{unfair_found, unfair_none}
use Rattle.pricing.proofs.fair.first_unfair.Goals as goal

pub returns-then-not-has_fair : goal.returns-then-not-has_fair
returns-then-not-has_fair g c =
    let us = g.B.Bank.rules c.args.bank.now in
    let zs = c.args.multipliers.now in
    let r = c.loop-rule.rule in
    let f : SFits w64 (get_or zs r (pos 0)) = search rules in
    let told = c.has_fair.ensures ∙ ap (fair (get_or us r no_rule).sense) (to_z-of_z w64 (get_or zs r (pos 0)) f) in
    sym (unfair_found us zs c.requires.many r (omega (arith, c.requires.many)) (sym told ∙ c.if-not-has_fair.true) c.loop-rule.invariant)

pub returns : goal.returns
returns g c =
    sym (unfair_none (g.B.Bank.rules c.args.bank.now) c.args.multipliers.now c.requires.many (λ k l. c.loop-rule.invariant k (omega (arith, c.requires.many))))
