use Rattle.std.proofs.Common.{sym, arith}
use Rattle.charts.specs.Drafts.{arcs_of}
use Rattle.judging.proofs.Rows.{stray_none}
use Rattle.casebooks.proofs.Offers.{path_there}
use Rattle.casebooks.proofs.desk.Desk.offer_row.Goals as goal

pub invariant_of-offer : goal.invariant_of-offer
invariant_of-offer g c =
    let arcs = arcs_of c.args.self.now.chart in
    let p = c.args.offered.now in
    record {
      few = omega (arith, c.if-offered-from.false, c.from.ensures, c.places.ensures.value, c.places.ensures.sealed.few);
      there = path_there arcs p 1 0 (stray_none arcs 1 0 p (sym c.in_default.ensures));
    }
