use Rattle.piles.proofs.Views.{sides_view}
use Rattle.piles.proofs.pile.Pile.is_one_sided.Goals as goal

pub returns : goal.returns
returns c =
    let s = c.args.self.now in
    sides_view c.args.arcs.all.now s.marks.at s.table.at s.table.count c.requires s.low c.args.split.place c.args.split.routes.bits _ _ c.any_on_side-within.ensures c.any_on_side-beyond.ensures
