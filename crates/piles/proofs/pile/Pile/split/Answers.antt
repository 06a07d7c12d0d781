use Rattle.std.proofs.Common.{◌≤◌, length, arith}
use Rattle.piles.proofs.Heights.{length_cases}
use Rattle.piles.proofs.Views.{split_view, split_low_view}
use Rattle.piles.proofs.pile.Pile.split.Goals as goal

pub invariant_of-self : goal.invariant_of-self
invariant_of-self c =
    let s = c.args.self.now in
    let arcs = c.args.arcs.all.now in
    let long : s.table.count ≤ length s.table.at = omega arith in
    record {
      within = omega (arith, length_cases arcs s.marks.at s.table.at s.table.count);
      low = split_low_view arcs s.marks.at s.table.at s.table.count c.requires.some s.low c.args.split c.cut.new.self.at long c.cut.ensures;
    }

pub returns : goal.returns
returns c =
    let s = c.args.self.now in
    let long : s.table.count ≤ length s.table.at = omega arith in
    split_view c.args.arcs.all.now s.marks.at s.table.at s.table.count c.requires.some s.low c.args.split c.cut.new.self.at long c.cut.ensures
