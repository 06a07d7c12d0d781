use Rattle.std.proofs.Common.{rules, List, ℤ, length, take, ◌∙◌, ap, arith, length-set}
use Rattle.lines.proofs.Turns.{goes_on, ends_here}
use Rattle.dossiers.proofs.Namings.{written, name_next, name_none, none_named, all_named}
use Rattle.dossiers.proofs.multipliers.named.Goals as goal

pub returns-then-rule-len : goal.returns-then-rule-len
returns-then-rule-len c xs h =
    none_named c.args.count _ xs (omega arith) (goes_on (c.loop-rule.invariant.1 xs h) c.in-Some.ensures.steps (name_none c.args.count _ c.loop-rule.multipliers.items (omega arith))).same

pub loop-rule-preserved : goal.loop-rule-preserved
loop-rule-preserved c =
    let zs = c.loop-rule.multipliers.items in
    let w = written zs c.deref_mut.result.now c.in-Some.rule c.in-Some.multiplier _ c.deref_mut.ensures.value (search rules) in (
      ap length w ∙ length-set zs c.in-Some.rule c.in-Some.multiplier ∙ c.loop-rule.invariant.0,
      λ xs h. goes_on (c.loop-rule.invariant.1 xs h) c.in-Some.ensures.steps (name_next c.args.count _ zs (omega arith) w),
    )

pub returns : goal.returns
returns c xs h =
    all_named c.args.count _ _ xs (omega arith)
    (c.truncate.ensures.items ∙ ap (λ (zs : List ℤ). take c.args.count zs) c.from-multipliers.ensures.0)
    (ends_here (c.loop-rule.invariant.1 xs h) c.in-None.ensures.steps)
