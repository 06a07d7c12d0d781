use Rattle.std.proofs.Common.{sym, arith, rules}
use Rattle.std.proofs.lemmas.Bool.{leb-true}
use Rattle.terms.proofs.Members.{put_in}
use Rattle.terms.proofs.routes.RouteSet.insert.Goals as goal

pub returns : goal.returns
returns c = record {
  answer = search rules;
  inside = λ q. search (rules, put_in);
  bits = search rules;
  refused = λ h. absurd (omega (arith, leb-true c.args.route 63 (sym c.if-not-is_route.ensures)));
}
