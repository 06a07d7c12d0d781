use Rattle.std.proofs.Common.{ℕ, ◌≤◌, List, ◌++◌, length, take}
use Rattle.lines.specs.Cursors.{HoldsNumbers}
use Rattle.lines.specs.Forms.{Short}
use Rattle.lines.specs.Items.{RowOrList}
use Rattle.lines.proofs.Turns.{Goes}
use Rattle.dossiers.proofs.offers.offered.Given as goal

-- what is kept from here on is what was to be kept
abbrev pub invariant-loop-arc : goal.invariant-loop-arc
invariant-loop-arc l = (length l.offered.items ≤ 33) × ((arcs : List ℕ) → HoldsNumbers arcs l.fn.items → Goes Short RowOrList l.arc-iterator (take 33 arcs) (λ ys. take 33 (l.offered.items ++ ys)))
