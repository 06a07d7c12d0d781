use Rattle.std.proofs.Common.{ℕ, List, ℤ}
use Rattle.lines.specs.Cursors.{HoldsTriples}
use Rattle.lines.specs.Forms.{ShortTriple, triple}
use Rattle.lines.specs.Items.{Row}
use Rattle.lines.proofs.Turns.{Goes}
use Rattle.unsealed.specs.Items.{stored}
use Rattle.unsealed.proofs.items.store.Given as goal

-- what is stored from here on is what was to be stored
abbrev pub invariant-loop-entry : goal.invariant-loop-entry
invariant-loop-entry l = (xs : List (ℕ × ℕ × ℤ)) → HoldsTriples xs l.fn.items → Goes ShortTriple (Row triple) l.entry-iterator (stored l.initial.table xs) (stored l.table)
