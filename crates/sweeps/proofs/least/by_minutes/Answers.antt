use Rattle.std.proofs.Common.{pos, refl, arith}
use Rattle.sweeps.proofs.Alike.{alike}
use Rattle.sweeps.proofs.least.by_minutes.Goals as goal

pub loop-i-init : goal.loop-i-init
loop-i-init c = record { long = refl; each = λ k l. absurd (omega arith); rest = λ k l. alike 1024 k (pos 0) }
