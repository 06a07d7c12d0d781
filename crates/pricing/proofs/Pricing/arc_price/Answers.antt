use Rattle.std.proofs.Common.{◌≡◌, ℕ, ◌*◌, ◌≤◌, length, get_or, ℤ, pos, ◌+ℤ◌, nat_abs, sym, ap, ◌∙◌, arith}
use lib.IntN.{+ℤ_assoc}
use Rattle.amounts.specs.Sums.{sum_to, worth_of}
use Rattle.amounts.proofs.Sums.{sum_more}
use Rattle.amounts.proofs.Sizes.{add_size}
use Rattle.amounts.proofs.Passed.{sum_fits, sum_is}
use Rattle.through.proofs.Collecting.{active_there, active_price, active_part_size, active_front_size}
use Rattle.pricing.proofs.Pricing.arc_price.Given as given
use Rattle.pricing.proofs.Pricing.arc_price.Goals as goal

pub weight_part-price-requires-clause-there : goal.weight_part-price-requires-clause-there
weight_part-price-requires-clause-there g c =
    active_there (g.B.Bank.rules c.args.self.now.bank.now) c.args.self.now.multipliers.now c.deref-rule-items.result.now c.args.self.now.asked (c.deref-rule-items.ensures.0 ∙ c.args.self.now.counted) c.loop-rule.rule-index c.loop-rule-test.true

-- what the two answers share
record Facts (g : given.Over) (c : goal.After-weight_part-price g) : Type 0 where
  small : nat_abs c.weight_part-price.result ≤ 1_000_000_000_000_000
  both : nat_abs (c.loop-rule.price +ℤ c.weight_part-price.result) ≤ 200_000_000_000_000_000

facts : (g : given.Over) (c : goal.After-weight_part-price g) → Facts g c
facts g c =
    let us = g.B.Bank.rules c.args.self.now.bank.now in
    let zs = c.args.self.now.multipliers.now in
    let range = g.B.Bank.within c.args.self.now.bank.now in
    let numbers = c.deref-rule-items.result.now in
    let counted = c.deref-rule-items.ensures.0 ∙ c.args.self.now.counted in
    let x = c.args.arc in
    let j = c.loop-rule.rule-index in
    let s : nat_abs c.weight_part-price.result ≤ 10_000_000_000_000 = rw c.weight_part-price.ensures (active_part_size us zs numbers c.args.self.now.asked counted range x c.requires j c.loop-rule-test.true) in
    let t : nat_abs c.loop-rule.price ≤ 1_300_000_000_000_000 = rw (sym c.loop-rule.price-is ∙ c.loop-rule.invariant) (active_front_size us zs numbers c.args.self.now.asked counted range x c.requires j (omega arith)) in
    record { small = omega arith; both = omega (arith, add_size c.loop-rule.price c.weight_part-price.result) }

pub overflow_add-price : goal.overflow_add-price
overflow_add-price g c =
    let f = facts g c in
    sum_fits _ c.loop-rule.price c.weight_part-price.result 200_000_000_000_000_000 c.loop-rule.price-is f.small f.both (omega arith)

pub loop-rule-preserved : goal.loop-rule-preserved
loop-rule-preserved g c =
    let f = facts g c in
    let us = g.B.Bank.rules c.args.self.now.bank.now in
    let zs = c.args.self.now.multipliers.now in
    let x = c.args.arc in
    let j = c.loop-rule.rule-index in
    let part : ℕ → ℤ = λ i. worth_of us zs x.place x.route (get_or c.deref-rule-items.result.now i 0) in
    let is = sum_is _ c.loop-rule.price c.weight_part-price.result 200_000_000_000_000_000 c.loop-rule.price-is f.small f.both (omega arith) in
    let inv = c.loop-rule.invariant in
    let more = c.weight_part-price.ensures in
    let step = sum_more part j in
    let regroup = +ℤ_assoc (pos (1000 * x.minutes)) (sum_to part j) (part j) in
    cc

pub returns : goal.returns
returns g c =
    let us = g.B.Bank.rules c.args.self.now.bank.now in
    let zs = c.args.self.now.multipliers.now in
    let numbers = c.deref-rule-items.result.now in
    let x = c.args.arc in
    let all : c.loop-rule.rule-index ≡ length numbers = omega arith in
    c.loop-rule.invariant
    ∙ ap (λ m. pos (1000 * x.minutes) +ℤ sum_to (λ i. worth_of us zs x.place x.route (get_or numbers i 0)) m) all
    ∙ active_price us zs numbers c.args.self.now.asked (c.deref-rule-items.ensures.0 ∙ c.args.self.now.counted) x
