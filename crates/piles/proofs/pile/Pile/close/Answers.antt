use Rattle.std.proofs.Common.{◌<◌, arith}
use Rattle.piles.proofs.Heights.{length_cases}
use Rattle.piles.proofs.Views.{close_view}
use Rattle.piles.proofs.pile.Pile.close.Goals as goal

pub returns : goal.returns
returns c =
    let s = c.args.self.now in
    let arcs = c.args.arcs.all.now in
    let more : 1 < s.table.count = omega (arith, length_cases arcs s.marks.at s.table.at s.table.count) in
    close_view arcs s.marks.at c.lift.new.self.at c.cut.new.self.at s.table.at s.table.count more s.low c.lift.ensures c.cut.ensures
