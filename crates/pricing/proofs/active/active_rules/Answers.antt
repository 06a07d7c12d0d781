use Rattle.std.proofs.Common.{length, get_or, pos, sym, ap, ◌∙◌, arith, w64, SFits, rules}
use Rattle.std.proofs.lemmas.Int.{to_z-of_z}
use Rattle.through.specs.Pricings.{counts}
use Rattle.through.proofs.Collecting.{collected, counting_more, counting_skip}
use Rattle.pricing.proofs.active.active_rules.Goals as goal
use Rattle.pricing.proofs.active.active_rules.Goals.{then-counts, else-counts}

pub push-requires : goal.push-requires
push-requires c = omega (arith, ap length c.loop-rule.invariant, (collected c.args.multipliers.now c.loop-rule.rule).few)

pub loop-rule-preserved : goal.loop-rule-preserved
loop-rule-preserved c =
    let zs = c.args.multipliers.now in
    let r = c.loop-rule.rule in
    let f : SFits w64 (get_or zs r (pos 0)) = search rules in
    let same = sym (c.counts.ensures ∙ ap counts (to_z-of_z w64 (get_or zs r (pos 0)) f)) in
    elim c.if-counts.branch [
      | then-counts w ↦ ap (λ v. v.items) w.active-is ∙ w.push.ensures.items ∙ counting_more zs r c.loop-rule.active.items c.loop-rule.invariant (same ∙ w.if-counts.true)
      | else-counts w ↦ ap (λ v. v.items) w.active-is ∙ counting_skip zs r c.loop-rule.active.items c.loop-rule.invariant (same ∙ w.if-counts.false)
    ]
