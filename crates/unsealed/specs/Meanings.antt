-- What the items of a form mean, in the words of the subject. Assumes nothing.
use Rattle.std.specs.Prelude.{◌≡◌, ℕ, true, false, List, replicate, ℤ, pos, nat_eq}
use Rattle.terms.specs.Routes.{in_set}
use Rattle.rules.specs.Rules.{on_grid}
use Rattle.rules.specs.Makes.{clipped, budget_rule}
use Rattle.std.specs.List.{list_any}
use Rattle.unsealed.specs.Items.{no_route, set_of, place_outside, route_outside, stored, last_weight}

pub record ItemsMean : Type 0 where
  -- the set of a list of routes has just the routes of the list
  pub routes : (qs : List ℕ) → list_any no_route qs ≡ false → (q : ℕ) → in_set (set_of qs) q ≡ list_any (nat_eq q) qs
  -- in the rule of a budget a place and a route weigh what their last entry names, or its nearest bound, and 0 where they have none
  pub weights : (xs : List (ℕ × ℕ × ℤ)) → list_any (place_outside 32) xs ≡ false → list_any route_outside xs ≡ false → (limit : ℤ) (place route : ℕ) → on_grid place route ≡ true
      → (budget_rule limit (stored (replicate 2048 (pos 0)) xs)).weight place route ≡ clipped 10000 (last_weight xs place route (pos 0))
