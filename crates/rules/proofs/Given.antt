-- What a bank shows of its list of rules for its answers, and what a caller learns of an answer. Assumes nothing.
use Rattle.std.proofs.Common.{◌≡◌, ℕ, ◌<◌, ◌≤◌, Bool, true, false, cond, ◌&&◌, ltb, leb, List, length, get_or, ℤ, Some, None, refl, arith}
use Rattle.std.proofs.lemmas.Bool.Decides.{nat_tests}
use Rattle.std.proofs.lemmas.Bool.{ltb-true, leb-true, lt-ltb, and_parts}
use Rattle.rules.specs.Rules.{Rule, no_rule, counted, head_in, head_of, on_grid, weight_of}

-- a rule u below the count has its head
pub some_head : (rs : List Rule) (r : ℕ) (u : Rule) → r < counted rs → get_or rs r no_rule ≡ u → Some (head_in u) ≡ head_of rs r
some_head rs r u h e = grind (arith, nat_tests, e)

-- a rule u below the count has its weight on the grid
pub some_weight : (rs : List Rule) (r place route : ℕ) (u : Rule) → r < counted rs → on_grid place route ≡ true → get_or rs r no_rule ≡ u → Some (u.weight place route) ≡ weight_of rs r place route
some_weight rs r place route u h g e = let l = lt-ltb r (counted rs) h in rw (l, g, e)

-- a place from 1 to 32 and a route below 64 are on the grid
pub on_grid_lem : (place route : ℕ) → 1 ≤ place → place ≤ 32 → route < 64 → on_grid place route ≡ true
on_grid_lem place route h k l = grind (arith, nat_tests)

-- and nothing else is
pub grid_known : (place route : ℕ) → on_grid place route ≡ true → (1 ≤ place) × (place ≤ 32) × (route < 64)
grid_known place route g =
    let o = and_parts (leb 1 place && leb place 32) (leb route 63) g in
    let p = and_parts (leb 1 place) (leb place 32) o.0 in
    (leb-true 1 place p.0, leb-true place 32 p.1, omega (arith, leb-true route 63 o.1))

-- what stands behind an answer that is there
from_some : {X : Type 0} (b : Bool) (x y : X) → Some x ≡ cond b (Some y) None → (b ≡ true) × (y ≡ x)
from_some true x y e = (refl, cc)
from_some false x y e = let z : ◌≡◌ {A = ℕ} 0 1 = cc in absurd (omega arith)

-- of a weight that is there: the rule is below the count, place and route are on the grid, and the weight is the rule's own
pub record WeightKnown (rs : List Rule) (r place route : ℕ) (w : ℤ) : Type 0 where
  pub there : r < counted rs
  pub grid : on_grid place route ≡ true
  pub value : (get_or rs r no_rule).weight place route ≡ w

-- this is known of each weight that is there
pub weight_known : (rs : List Rule) (r place route : ℕ) (w : ℤ) → Some w ≡ weight_of rs r place route → WeightKnown rs r place route w
weight_known rs r place route w e =
    let k = from_some (ltb r (counted rs) && on_grid place route) w ((get_or rs r no_rule).weight place route) e in
    let p = and_parts (ltb r (counted rs)) (on_grid place route) k.0 in
    record { there = ltb-true r (counted rs) p.0; grid = p.1; value = k.1 }

-- a count of at most 128 is the number of rules
pub counted_all : (rs : List Rule) → counted rs ≤ 128 → counted rs ≡ length rs
counted_all rs h = omega arith

-- a rule below the count is one of the list
pub counted_there : (rs : List Rule) (r : ℕ) → r < counted rs → r < length rs
counted_there rs r h = omega arith
