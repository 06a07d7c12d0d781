use Rattle.std.proofs.Common.{ℕ, ◌^◌, ◌<◌, length, sym, ap, ◌∙◌, rules}
use Rattle.std.proofs.lemmas.Bool.{leb-true}
use Rattle.terms.specs.Routes.{routes_of}
use Rattle.terms.proofs.Members.{members_past, no_route_lem, rank_below}
use Rattle.terms.proofs.routes.RouteSet.rank.Goals as goal

pub returns-then-is_route : goal.returns-then-is_route
returns-then-is_route c =
    c.len.ensures ∙ ap (λ (n : ℕ). length (routes_of n)) c.below.ensures
    ∙ rank_below c.args.self.bits c.args.route (leb-true c.args.route 63 (sym c.if-is_route.ensures))

pub returns-else-is_route : goal.returns-else-is_route
returns-else-is_route c =
    let f : c.args.self.bits < 2 ^ 64 = search rules in
    c.len-else-is_route.ensures
    ∙ sym (ap length (members_past c.args.self.bits 64 c.args.route f (no_route_lem c.args.route c.if-is_route.ensures)))
