use Rattle.std.proofs.Common.{false, refl, arith}
use Rattle.piles.proofs.Marking.{filled}
use Rattle.piles.proofs.pile.Marks.standing.Goals as goal

pub loop-i-init : goal.loop-i-init
loop-i-init c = (refl, λ a l. absurd (omega arith), λ a h. filled 1024 false a)
