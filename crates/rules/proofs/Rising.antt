-- What is answered of the rules of a set of routes, in rising order. Assumes nothing.
use Rattle.std.proofs.Common.{◌≡◌, ℕ, ◌<◌, Bool, true, cond, length, get_or, pos, Some, sym, ap, ◌∙◌, arith}
use Rattle.std.proofs.lemmas.List.{length-map}
use Rattle.terms.specs.declared.rule.Sense.TheVariants.{Exactly}
use Rattle.terms.specs.Routes.{routes_of}
use Rattle.terms.proofs.Members.{members_few, is_at}
use Rattle.rules.specs.Rules.{counted, head_of, on_grid, weight_of}
use Rattle.rules.specs.Makes.{once_rule, once_rules, is_nth}
use Rattle.rules.proofs.Given.{grid_known, some_head, some_weight}
use Rattle.rules.proofs.Each.{rule_at, within_map}

-- a set has at most 64 routes, so the count is their number
pub once_counted : (bits : ℕ) → length (routes_of bits) ≡ counted (once_rules bits)
once_counted bits = omega (arith, length-map (routes_of bits) once_rule, members_few bits 64)

-- each rule says exactly 1
pub once_head : (bits r : ℕ) → r < counted (once_rules bits) → Some (record { sense = Exactly; limit = pos 1 }) ≡ head_of (once_rules bits) r
once_head bits r h =
    some_head (once_rules bits) r (once_rule (get_or (routes_of bits) r 0)) h (rule_at once_rule (routes_of bits) r 0 h)

-- a route weighs 1 in the rule whose number is that of the routes below it
pub once_weight : (bits r place route : ℕ) → r < counted (once_rules bits) → on_grid place route ≡ true → Some (cond (is_nth bits r route) (pos 1) (pos 0)) ≡ weight_of (once_rules bits) r place route
once_weight bits r place route h g =
    ap (λ (b : Bool). Some (cond b (pos 1) (pos 0))) (sym (is_at bits 64 r route (within_map once_rule (routes_of bits) r h) (grid_known place route g).2))
    ∙ some_weight (once_rules bits) r place route (once_rule (get_or (routes_of bits) r 0)) h g (rule_at once_rule (routes_of bits) r 0 h)
