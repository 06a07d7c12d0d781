use Rattle.std.proofs.Common.{◌≡◌, not, get_or, ◌-ℤ◌, sym, ap, ◌∙◌}
use Rattle.terms.specs.declared.rule.Head.{Head}
use Rattle.charts.specs.Drafts.{arcs_of}
use Rattle.rules.specs.Rules.{no_rule, head_in}
use Rattle.rules.specs.Lawful.{weighed, meets}
use Rattle.amounts.proofs.Sizes.{within_size}
use Rattle.casebooks.proofs.Offers.{total_is}
use Rattle.casebooks.proofs.desk.offers.Offered.breaks.Goals as goal

pub returns : goal.returns
returns g c =
    let us = g.B.Bank.rules c.args.bank.now in
    let h = c.head_at-head.result in
    let u = get_or us c.args.rule no_rule in
    let w = c.weigh.result in
    let known : head_in u ≡ h = sym c.head_at-head.ensures.value in
    let small = within_size 1000000 h.limit c.head_at-head.ensures.small in
    let total = total_is w h.limit c.weigh.ensures.small small in
    let worth = c.weigh.ensures.value in
    ap not (c.meets.ensures ∙ ap (meets h.sense) (total ∙ ap (λ x. x -ℤ h.limit) worth) ∙ ap (λ (y : Head). meets y.sense (weighed (arcs_of c.args.self.chart.now) u c.args.self.plan.now -ℤ y.limit)) (sym known))
