use Rattle.std.proofs.Common.{ℕ, List}
use Rattle.lines.specs.Cursors.{HoldsNumbers}
use Rattle.lines.specs.Forms.{Short}
use Rattle.lines.specs.Items.{RowOrList}
use Rattle.lines.proofs.Turns.{Goes}
use Rattle.unsealed.specs.Items.{routes_read}
use Rattle.unsealed.proofs.Sets.{read}
use Rattle.unsealed.proofs.items.route_set.Given as goal

-- what is found from here on is what was to be found
abbrev pub invariant-loop-route : goal.invariant-loop-route
invariant-loop-route l = (qs : List ℕ) → HoldsNumbers qs l.fn.items → Goes Short RowOrList l.route-iterator (routes_read qs) (read l.routes.bits)
