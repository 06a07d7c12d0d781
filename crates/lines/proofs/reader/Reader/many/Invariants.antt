use Rattle.std.proofs.Common.{◌∷◌, length}
use Rattle.lines.specs.Texts.{Many}
use Rattle.lines.proofs.Listing.{Goes}
use Rattle.lines.proofs.reader.Reader.many.Given as goal

-- where what is left halts or is whole, so is the list
abbrev pub invariant-loop-self : goal.invariant-loop-self
invariant-loop-self g l = Goes (Many g.T.LineItem.text g.T.LineItem.short (41 ∷ l.after)) l.initial.self.rest.now l.self.rest.now

-- what is left
abbrev pub decreases-loop-self : goal.decreases-loop-self
decreases-loop-self g l = length l.self.rest.now
