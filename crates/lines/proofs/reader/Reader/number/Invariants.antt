use Rattle.std.proofs.Common.{◌++◌, length, decimal}
use Rattle.lines.proofs.Numerals.{Sofar}
use Rattle.lines.proofs.reader.Reader.number.Given as goal

-- the digits read so far are those of `n`
abbrev pub invariant-loop-self : goal.invariant-loop-self
invariant-loop-self l = Sofar (decimal l.initial.n ++ l.initial.self.rest.now) l.n l.self.rest.now

-- what is left
abbrev pub decreases-loop-self : goal.decreases-loop-self
decreases-loop-self l = length l.self.rest.now
