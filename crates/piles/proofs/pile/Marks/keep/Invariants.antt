use Rattle.std.proofs.Common.{◌≡◌, ℕ, ◌<◌, ◌≤◌, get_or}
use Rattle.piles.specs.Heights.{keep_mark}
use Rattle.piles.proofs.pile.Marks.keep.Given as goal

-- the arcs behind are done, and the others as they were
abbrev pub invariant-loop-i : goal.invariant-loop-i
invariant-loop-i l =
    ((a : ℕ) → a < l.i → get_or l.self.at a 0 ≡ keep_mark l.count l.keeps l.height a (get_or l.initial.self.at a 0))
    × ((a : ℕ) → l.i ≤ a → get_or l.self.at a 0 ≡ get_or l.initial.self.at a 0)
