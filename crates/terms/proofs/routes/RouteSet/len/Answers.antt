use Rattle.std.proofs.Common.{rules}
use Rattle.terms.proofs.Members.{ones_length}
use Rattle.terms.proofs.routes.RouteSet.len.Goals as goal

pub returns : goal.returns
returns c = search (rules, ones_length)
