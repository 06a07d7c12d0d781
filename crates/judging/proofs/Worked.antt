-- The worked example is a sealed chart with rules in range. Assumes nothing.
use Rattle.std.proofs.Common.{ℕ, zero, suc, ◌<◌, ◌≤◌, [], ◌∷◌, ◌++◌, pos, refl, arith}
use Rattle.plans.specs.Arcs.{ArcInRange, arc_at}
use Rattle.rules.specs.Rules.{InRange}
use Rattle.rules.specs.Makes.{once_rules, order_rules, budget_rules}
use Rattle.rules.specs.Ranges.{once_range, order_range, budget_range, join_range}
use Rattle.judging.specs.Theorem.{Posed}
use Rattle.judging.specs.Example.{example, example_rules, two_first, straight}

straight_fits : (k q minutes : ℕ) → 1 ≤ k → k ≤ 2 → q < 64 → minutes ≤ 10000 → ArcInRange 2 (straight k q minutes)
straight_fits k q minutes a b c d = record {
  placed = (a, b);
  noded = (omega arith, omega arith);
  rooted = λ _. refl;
  ended = λ _. refl;
  ranged = (c, d);
}

arc_fits : (a : ℕ) → a < 4 → ArcInRange 2 (arc_at example.arcs a)
arc_fits zero l = straight_fits 1 1 4 (omega arith) (omega arith) (omega arith) (omega arith)
arc_fits (suc zero) l = straight_fits 1 2 9 (omega arith) (omega arith) (omega arith) (omega arith)
arc_fits (suc (suc zero)) l = straight_fits 2 1 3 (omega arith) (omega arith) (omega arith) (omega arith)
arc_fits (suc (suc (suc zero))) l = straight_fits 2 2 10 (omega arith) (omega arith) (omega arith) (omega arith)
arc_fits (suc (suc (suc (suc a)))) l = absurd (omega arith)

rule_fits : InRange example_rules
rule_fits =
    join_range (once_rules 6) (order_rules (two_first ∷ []) ++ budget_rules (pos 0) []) (once_range 6)
    (join_range (order_rules (two_first ∷ [])) (budget_rules (pos 0) []) (order_range (two_first ∷ [])) (budget_range (pos 0) []))

pub example_posed : Posed example
example_posed = record { chart = record { some = omega arith; few = omega arith; count = omega arith; arc = arc_fits }; rules = rule_fits }
