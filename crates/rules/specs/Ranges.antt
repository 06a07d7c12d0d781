-- The rules of each make are in range. Assumes nothing.
use Rattle.std.specs.Prelude.{◌≡◌, ℕ, zero, suc, ◌+◌, ◌-◌, ◌*◌, ◌≤◌, Bool, true, false, cond, ◌&&◌, List, [], ◌∷◌, ◌++◌, map, length, ℤ, pos, neg_ℤ, ◌==◌, nat_le, slice_index_or, refl}
use Rattle.std.proofs.Common.{sym, subst, inl, inr, arith, length-append}
use Rattle.std.proofs.lemmas.Int.{ints, clamps}
use Rattle.std.proofs.lemmas.List.{get_or_append_left, get_or-append_right}
use Rattle.std.proofs.lemmas.Bool.{cases_lt, and_parts, leb-true}
use Rattle.terms.specs.Routes.{routes_of}
use Rattle.rules.specs.declared.order.Precedence.{Precedence}
use Rattle.rules.specs.Rules.{Rule, no_rule, InRange, RuleInRange, Within, on_grid}
use Rattle.rules.specs.Makes.{once_rule, once_rules, order_rule, order_rules, clipped, budget_rules}

-- a place on the grid is at most 32
grid_place : (place route : ℕ) → on_grid place route ≡ true → place ≤ 32
grid_place place route h =
    leb-true place 32 (and_parts (nat_le 1 place) (nat_le place 32) (and_parts (nat_le 1 place && nat_le place 32) (nat_le route 63) h).0).1

-- rules made one by one from a list
each_range : {X : Type 0} (f : X → Rule) → ((x : X) → RuleInRange (f x)) → (xs : List X) → InRange (map f xs)
each_range f h [] r l = absurd (omega arith)
each_range f h (x ∷ xs) zero l = h x
each_range f h (x ∷ xs) (suc r) l = each_range f h xs r (omega arith)

-- a weight of 1 or 0
once_within : (b : Bool) → Within 10000 (cond b (pos 1) (pos 0))
once_within true = (omega (arith, ints), omega (arith, ints))
once_within false = (omega (arith, ints), omega (arith, ints))

-- the rules of a set of routes
pub once_range : (bits : ℕ) → InRange (once_rules bits)
once_range bits =
    each_range once_rule (λ q. record { limit = (omega (arith, ints), omega (arith, ints)); weight = λ place route _. once_within (route == q) }) (routes_of bits)

-- a weight of the place, minus the place, or 0
order_within : (b d : Bool) (place : ℕ) → place ≤ 32 → Within 10000 (cond b (cond d (pos 0) (pos place)) (cond d (neg_ℤ (pos place)) (pos 0)))
order_within true true place h = (omega (arith, ints), omega (arith, ints))
order_within true false place h = (omega (arith, ints), omega (arith, ints))
order_within false true place h = (omega (arith, ints), omega (arith, ints))
order_within false false place h = (omega (arith, ints), omega (arith, ints))

-- the rules of a list of pairs
pub order_range : (es : List Precedence) → InRange (order_rules es)
order_range es =
    each_range order_rule (λ e. record {
      limit = (omega (arith, ints), omega (arith, ints));
      weight = λ place route h. order_within (route == e.earlier) (route == e.later) place (grid_place place route h);
    }) es

-- what counts as the nearest bound is within the bounds
clipped_within : (n : ℕ) (z : ℤ) → Within n (clipped n z)
clipped_within n z = (omega (arith, ints, clamps), omega (arith, ints, clamps))

-- the rule of a table
pub budget_range : (limit : ℤ) (table : List ℤ) → InRange (budget_rules limit table)
budget_range limit table zero h = record {
  limit = clipped_within 1000000 limit;
  weight = λ place route _. clipped_within 10000 (slice_index_or table (64 * (place - 1) + route) (pos 0));
}
budget_range limit table (suc r) h = absurd (omega arith)

-- the rules of two lists, one after the other
pub join_range : (xs ys : List Rule) → InRange xs → InRange ys → InRange (xs ++ ys)
join_range xs ys p q r h =
    elim (cases_lt r (length xs)) [
      | inl l ↦ subst RuleInRange (sym (get_or_append_left xs ys no_rule r l)) (p r l)
      | inr g ↦ subst RuleInRange (sym (get_or-append_right xs ys (length xs) r no_rule refl g)) (q (r - length xs) (omega (arith, length-append xs ys)))
    ]
