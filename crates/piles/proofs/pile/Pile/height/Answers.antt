use Rattle.std.proofs.Common.{sym}
use Rattle.piles.proofs.Heights.{length_cases}
use Rattle.piles.proofs.pile.Pile.height.Goals as goal

pub returns : goal.returns
returns c arcs = let s = c.args.self.now in sym (length_cases arcs s.marks.at s.table.at s.table.count)
