use Rattle.std.proofs.Common.{sym, ◌∙◌}
use Rattle.fifth_bank.specs.NotBefores.{judged_under}
use Rattle.fifth_bank.proofs.Chained.{Chain, calls, ran, settles}
use Rattle.fifth_bank.proofs.settle.settled.Goals as goal

pub returns : goal.returns
returns c h v =
    let k = c.args.minutes in
    let zs = c.args.multipliers.now in
    let chain : Chain (judged_under c.args.chart c.args.bank.route c.args.bank.place) k zs = record {
      posed = _;
      claimed = _;
      judged = _;
      begun = _;
      started = _;
      ended = _;
      poses = c.open-book.ensures.judges;
      begins = c.open-book.ensures.model;
      starts = c.claim.ensures.left;
      keeps = c.claim.ensures.same;
      ends = c.close.ensures.left;
      stays = c.close.ensures.same;
    } in
    settles chain h (sym c.verdict.ensures.value ∙ v) (c.verdict.ensures.here (calls k zs) (ran chain)) (c.verdict.ensures.theorem (calls k zs)).0
