use Rattle.std.proofs.Common.{◌∷◌, length, sym, arith, ◌∙◌}
use Rattle.std.proofs.lemmas.Bool.{eqb-true, eqb-false}
use Rattle.lines.proofs.Turns.{goes_on, ends_here}
use Rattle.dossiers.proofs.Kept.{keep_next, keep_end, keep_full}
use Rattle.dossiers.proofs.offers.offered.Goals as goal

pub loop-arc-preserved : goal.loop-arc-preserved
loop-arc-preserved c =
    let room = eqb-false (length c.loop-arc.offered.items) 33 (sym c.is_full.ensures.value ∙ c.if-is_full.false) in (
      omega (arith, room, c.push.ensures.len, c.loop-arc.invariant.0),
      λ arcs h. goes_on (c.loop-arc.invariant.1 arcs h) c.in-Some.ensures.steps (keep_next 33 c.loop-arc.offered.items _ c.in-Some.arc c.push.ensures.items),
    )

pub returns-in-None : goal.returns-in-None
returns-in-None c arcs h = keep_end 33 c.loop-arc.offered.items arcs c.loop-arc.invariant.0 (ends_here (c.loop-arc.invariant.1 arcs h) c.in-None.ensures.steps)

pub returns-then-is_full : goal.returns-then-is_full
returns-then-is_full c arcs h =
    let full = eqb-true (length c.loop-arc.offered.items) 33 (sym c.is_full.ensures.value ∙ c.if-is_full.true) in
    (goes_on (c.loop-arc.invariant.1 arcs h) c.in-Some.ensures.steps (λ ys. keep_full 33 c.loop-arc.offered.items full (c.in-Some.arc ∷ ys))).same
