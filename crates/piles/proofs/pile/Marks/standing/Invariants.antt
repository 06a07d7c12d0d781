use Rattle.std.proofs.Common.{◌≡◌, ℕ, ◌<◌, ◌≤◌, false, eqb, length, get_or}
use Rattle.piles.proofs.pile.Marks.standing.Given as goal

-- the arcs behind are done, and the others are clear
abbrev pub invariant-loop-i : goal.invariant-loop-i
invariant-loop-i l =
    (length l.out ≡ 1024)
    × ((a : ℕ) → a < l.i → get_or l.out a false ≡ eqb (get_or l.self.at a 0) 0)
    × ((a : ℕ) → l.i ≤ a → get_or l.out a false ≡ false)
