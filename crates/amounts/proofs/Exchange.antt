-- The arcs' prices and the limits' share together are the priced amount. Assumes nothing.
use Rattle.std.proofs.Common.{◌≡◌, ℕ, ◌*◌, List, [], ◌∷◌, ℤ, pos, ◌+ℤ◌, ◌*ℤ◌, neg_ℤ, sym, refl, ap, ◌∙◌, ap₂, mul-add}
use lib.IntN.{+ℤ_idl, +ℤ_assoc}
use Rattle.terms.specs.declared.arc.Arc.{Arc}
use Rattle.plans.specs.Arcs.{arc_at}
use Rattle.plans.specs.Plans.{cost}
use Rattle.rules.specs.Rules.{Rule}
use Rattle.rules.specs.Lawful.{weighed, total}
use Rattle.amounts.specs.Amounts.{charge, worth, owed, arc_price, price_sum}
use Rattle.amounts.specs.Laws.{PricedBySum}
use Rattle.amounts.proofs.Products.{swap, product_add, product_neg}

-- what the rules charge for no arcs is the limits' share
pub charge_none : (arcs : List Arc) (us : List Rule) (zs : List ℤ) → charge arcs us zs [] ≡ owed us zs
charge_none arcs [] zs = refl
charge_none arcs (u ∷ us) [] = refl
charge_none arcs (u ∷ us) (z ∷ zs) =
    ap₂ ◌+ℤ◌ (ap (λ x. z *ℤ x) (+ℤ_idl (neg_ℤ u.limit)) ∙ product_neg z u.limit) (charge_none arcs us zs)

-- one arc more is charged what its place and route are worth
pub charge_more : (arcs : List Arc) (us : List Rule) (zs : List ℤ) (a : ℕ) (p : List ℕ) → charge arcs us zs (a ∷ p) ≡ worth us zs (arc_at arcs a).place (arc_at arcs a).route +ℤ charge arcs us zs p
charge_more arcs [] zs a p = refl
charge_more arcs (u ∷ us) [] a p = refl
charge_more arcs (u ∷ us) (z ∷ zs) a p =
    let w = u.weight (arc_at arcs a).place (arc_at arcs a).route in
    ap₂ ◌+ℤ◌
    (ap (λ x. z *ℤ x) (+ℤ_assoc w (weighed arcs u p) (neg_ℤ u.limit)) ∙ product_add z w (total arcs u p))
    (charge_more arcs us zs a p)
    ∙ swap (z *ℤ w) (z *ℤ total arcs u p) (worth us zs (arc_at arcs a).place (arc_at arcs a).route) (charge arcs us zs p)

-- so the limits enter once
pub priced_by_sum : PricedBySum
priced_by_sum t zs [] = ap (λ x. pos 0 +ℤ x) (charge_none t.arcs t.rules zs)
priced_by_sum t zs (a ∷ p) =
    let x = arc_at t.arcs a in
    let c = cost t.arcs p in
    ap₂ ◌+ℤ◌ (ap pos (mul-add 1000 x.minutes c)) (charge_more t.arcs t.rules zs a p)
    ∙ swap (pos (1000 * x.minutes)) (pos (1000 * c)) (worth t.rules zs x.place x.route) (charge t.arcs t.rules zs p)
    ∙ ap (λ y. arc_price t.rules zs x +ℤ y) (priced_by_sum t zs p)
    ∙ sym (+ℤ_assoc (arc_price t.rules zs x) (price_sum t zs p) (owed t.rules zs))
