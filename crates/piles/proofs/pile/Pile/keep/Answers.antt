use Rattle.piles.proofs.Views.{keep_view}
use Rattle.piles.proofs.pile.Pile.keep.Goals as goal

pub returns : goal.returns
returns c =
    let s = c.args.self.now in
    keep_view c.args.arcs.all.now s.marks.at s.table.at s.table.count c.requires.some s.low c.keep.new.self.at c.args.keeps.now c.keep.ensures
