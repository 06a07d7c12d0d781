use Rattle.std.proofs.Common.{◌^◌, ◌<◌, sym, ◌∙◌, rules}
use Rattle.terms.proofs.Members.{no_route_lem, none_past}
use Rattle.terms.proofs.routes.RouteSet.contains.Goals as goal

pub returns-else-is_route : goal.returns-else-is_route
returns-else-is_route c =
    let f : c.args.self.bits < 2 ^ 64 = search rules in
    c.if-is_route.false ∙ sym (none_past c.args.self.bits 64 c.args.route f (no_route_lem c.args.route c.if-is_route.ensures))
