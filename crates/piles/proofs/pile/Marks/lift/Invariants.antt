use Rattle.std.proofs.Common.{◌≡◌, ℕ, ◌<◌, ◌≤◌, length, get_or}
use Rattle.piles.specs.Heights.{lift_mark}
use Rattle.piles.proofs.pile.Marks.lift.Given as goal

-- the marks behind are done, and the others as they were
abbrev pub invariant-loop-mark : goal.invariant-loop-mark
invariant-loop-mark l =
    (length l.mark-items ≡ 1024)
    × ((a : ℕ) → a < l.mark-index → get_or l.mark-items a 0 ≡ lift_mark l.height (get_or l.initial.mark-items a 0))
    × ((a : ℕ) → l.mark-index ≤ a → get_or l.mark-items a 0 ≡ get_or l.initial.mark-items a 0)
