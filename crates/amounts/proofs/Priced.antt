-- At fair multipliers a lawful plan is never overpriced. Assumes nothing.
use Rattle.std.proofs.Common.{◌≡◌, ℕ, suc, ◌*◌, ◌<◌, true, List, [], ◌∷◌, length, get_or, ℤ, pos, ◌+ℤ◌, ◌*ℤ◌, ◌≤ℤ◌, ap, ◌∙◌, arith}
use lib.IntN.{*ℤ-zero}
use lib.Signed.{le_z}
use Rattle.std.proofs.lemmas.Int.{ints}
use Rattle.std.proofs.lemmas.Bool.{and_parts}
use Rattle.terms.specs.declared.arc.Arc.{Arc}
use Rattle.terms.specs.declared.rule.Sense.{Sense}
use Rattle.terms.specs.declared.rule.Sense.TheVariants.{AtMost, Exactly}
use Rattle.plans.proofs.Whole.{le_z_true}
use Rattle.rules.specs.Rules.{Rule, no_rule}
use Rattle.rules.specs.Lawful.{total, meets, holds, cost_of}
use Rattle.amounts.specs.Multipliers.{fair, Fair}
use Rattle.amounts.specs.Amounts.{charge}
use Rattle.amounts.specs.Laws.{NeverOverpriced}
use Rattle.amounts.proofs.Products.{product_down}

-- a fair multiplier times a total that meets the rule's sense
pub product_meets : (s : Sense) (z t : ℤ) → fair s z ≡ true → meets s t ≡ true → (z *ℤ t) ≤ℤ pos 0
product_meets AtMost z t f h = product_down z t (le_z_true (pos 0) z (and_parts (le_z (pos 0) z) _ f).0) (le_z_true t (pos 0) h)
product_meets Exactly z t f h =
    let r = and_parts (le_z t (pos 0)) (le_z (pos 0) t) h in
    let e : t ≡ pos 0 = omega (arith, ints, le_z_true t (pos 0) r.0, le_z_true (pos 0) t r.1) in
    let q : z *ℤ t ≡ pos 0 = ap (λ (x : ℤ). z *ℤ x) e ∙ *ℤ-zero z in
    omega (arith, ints, q)

-- where every rule holds, nothing is charged
pub charge_down : (arcs : List Arc) (us : List Rule) (zs : List ℤ) (p : List ℕ) → Fair us zs → ((r : ℕ) → r < length us → holds arcs p (get_or us r no_rule) ≡ true) → charge arcs us zs p ≤ℤ pos 0
charge_down arcs [] zs p f h = omega (arith, ints)
charge_down arcs (u ∷ us) [] p f h = omega (arith, ints)
charge_down arcs (u ∷ us) (z ∷ zs) p f h =
    sum (z *ℤ total arcs u p) (charge arcs us zs p)
    (product_meets u.sense z (total arcs u p) f.0 (h 0 (omega arith)))
    (charge_down arcs us zs p f.1 (λ r l. h (suc r) (omega arith)))
  where
    sum : (x y : ℤ) → x ≤ℤ pos 0 → y ≤ℤ pos 0 → (x +ℤ y) ≤ℤ pos 0
    sum x y h k = omega (arith, ints)

-- so the amount is at most 1000 × the cost
pub never_overpriced : NeverOverpriced
never_overpriced t zs f p l = up (pos (1000 * cost_of t p)) (charge t.arcs t.rules zs p) (charge_down t.arcs t.rules zs p f l.allowed)
  where
    up : (x y : ℤ) → y ≤ℤ pos 0 → (x +ℤ y) ≤ℤ x
    up x y h = omega (arith, ints)
