use Rattle.std.proofs.Common.{◌≡◌, ℕ, List, ℤ, length}
use Rattle.lines.specs.Cursors.{HoldsPairs}
use Rattle.lines.specs.Forms.{ShortPair, pair}
use Rattle.lines.specs.Items.{Row}
use Rattle.lines.proofs.Turns.{Goes}
use Rattle.dossiers.proofs.Namings.{named_from}
use Rattle.dossiers.proofs.multipliers.named.Given as goal

-- there is a multiplier for each rule, and what is named from here on is what was to be named
abbrev pub invariant-loop-rule : goal.invariant-loop-rule
invariant-loop-rule l =
    (length l.multipliers.items ≡ l.count) × ((xs : List (ℕ × ℤ)) → HoldsPairs xs l.fn.items → Goes ShortPair (Row pair) l.rule-iterator (named_from l.count l.initial.multipliers.items xs) (named_from l.count l.multipliers.items))
