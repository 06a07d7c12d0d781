use Rattle.std.proofs.Common.{◌+◌, ◌*◌, ◌<◌, ◌≤◌, get_or, take, ℤ, ◌+ℤ◌, nat_abs, sym, refl, ap, ◌∙◌, subst, arith}
use Rattle.charts.specs.Drafts.{arcs_of}
use Rattle.rules.specs.Rules.{no_rule}
use Rattle.rules.specs.Lawful.{weighed}
use Rattle.amounts.proofs.Sizes.{add_size}
use Rattle.amounts.proofs.Passed.{sum_is}
use Rattle.casebooks.proofs.Offers.{weighed_more}
use Rattle.casebooks.proofs.desk.offers.Offered.weigh.Goals as goal

-- what is added is small, and so is the sum
both : (x y : ℤ) (i : Prim.Native.Nat.ℕ) → nat_abs x ≤ 10000 * i → nat_abs y ≤ 10000 → i < 32 → nat_abs (x +ℤ y) ≤ 320000
both x y i a b l = omega (arith, add_size x y)

step : (x y : ℤ) (i : Prim.Native.Nat.ℕ) → nat_abs x ≤ 10000 * i → nat_abs y ≤ 10000 → nat_abs (x +ℤ y) ≤ 10000 * (i + 1)
step x y i a b = omega (arith, add_size x y)

pub loop-number-preserved : goal.loop-number-preserved
loop-number-preserved g c =
    let y = c.weight_at-sum.result in
    let i = c.loop-number.number-index in
    let small = c.weight_at-sum.ensures.small in
    let l : i < 32 = omega (arith, c.loop-number-test.true, c.args.self.few) in
    let is = sum_is _ _ y 320000 refl (omega (arith, small)) (both _ y i c.loop-number.invariant.1 small l) (omega arith) in
    let u = get_or (g.B.Bank.rules c.args.bank.now) c.args.rule no_rule in
    let more = weighed_more (arcs_of c.args.self.chart.now) u c.args.self.plan.now i c.loop-number-test.true in (
      is ∙ ap (λ x. x +ℤ y) c.loop-number.invariant.0 ∙ ap (λ z. weighed (arcs_of c.args.self.chart.now) u (take i c.args.self.plan.now) +ℤ z) c.weight_at-sum.ensures.value ∙ sym more,
      subst (λ z. nat_abs z ≤ 10000 * (i + 1)) (sym is) (step _ y i c.loop-number.invariant.1 small),
    )
