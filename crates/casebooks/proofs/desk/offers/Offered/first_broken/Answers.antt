use Rattle.std.proofs.Common.{◌<◌, length, sym, ◌∙◌, arith, below_more}
use Rattle.std.proofs.lemmas.Bool.{not-true, not-false}
use Rattle.charts.specs.Drafts.{arcs_of}
use Rattle.judging.proofs.Rows.{broken_found, holding_none}
use Rattle.casebooks.proofs.desk.offers.Offered.first_broken.Goals as goal

pub returns-then-breaks : goal.returns-then-breaks
returns-then-breaks g c =
    let us = g.B.Bank.rules c.args.bank.now in
    let l : c.loop-rule.rule < length us = omega (arith, c.loop-rule-test.true, c.count-rule-end.ensures, c.requires) in
    sym (broken_found (arcs_of c.args.self.chart.now) c.args.self.plan.now us c.loop-rule.rule l (not-true _ (sym c.breaks.ensures ∙ c.if-breaks.true)) c.loop-rule.invariant)

pub loop-rule-preserved : goal.loop-rule-preserved
loop-rule-preserved g c =
    below_more _ _ c.loop-rule.invariant (not-false _ (sym c.breaks.ensures ∙ c.if-breaks.false))

pub returns : goal.returns
returns g c =
    let us = g.B.Bank.rules c.args.bank.now in
    sym (holding_none (arcs_of c.args.self.chart.now) c.args.self.plan.now us (λ k l. c.loop-rule.invariant k (omega (arith, c.loop-rule-test.false, c.count-rule-end.ensures, c.requires))))
