use Rattle.std.proofs.Common.{◌≡◌, ℕ, ◌<◌, ◌≤◌, length, get_or, pos}
use Rattle.plans.specs.Arcs.{arc_at}
use Rattle.sweeps.proofs.least.by_minutes.Given as goal

-- what lies behind is written, and the rest is 0
abbrev pub invariant-loop-i : goal.invariant-loop-i
invariant-loop-i l = record {
  long : length l.prices ≡ 1024;
  each : (k : ℕ) → k < l.i → get_or l.prices k (pos 0) ≡ pos (arc_at l.arcs k).minutes;
  rest : (k : ℕ) → l.i ≤ k → get_or l.prices k (pos 0) ≡ pos 0;
}
