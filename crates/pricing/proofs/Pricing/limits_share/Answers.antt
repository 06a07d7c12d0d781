use Rattle.std.proofs.Common.{◌≡◌, ℕ, ◌≤◌, length, get_or, ℤ, ◌+ℤ◌, nat_abs, sym, ap, ◌∙◌, arith}
use Rattle.amounts.specs.Sums.{sum_to, owed_of}
use Rattle.amounts.proofs.Sums.{sum_more}
use Rattle.amounts.proofs.Sizes.{add_size}
use Rattle.amounts.proofs.Passed.{sum_fits, sum_is}
use Rattle.through.proofs.Collecting.{active_there, active_share, active_owed_size, active_share_size}
use Rattle.through.proofs.Pricing.{share_small}
use Rattle.pricing.proofs.Pricing.limits_share.Given as given
use Rattle.pricing.proofs.Pricing.limits_share.Goals as goal

pub limit_part-share-requires : goal.limit_part-share-requires
limit_part-share-requires g c =
    active_there (g.B.Bank.rules c.args.self.now.bank.now) c.args.self.now.multipliers.now c.deref-rule-items.result.now c.args.self.now.asked (c.deref-rule-items.ensures.0 ∙ c.args.self.now.counted) c.loop-rule.rule-index c.loop-rule-test.true

-- what the two answers share
record Facts (g : given.Over) (c : goal.After-limit_part-share g) : Type 0 where
  small : nat_abs c.limit_part-share.result ≤ 1_000_000_000_000_000
  both : nat_abs (c.loop-rule.share +ℤ c.limit_part-share.result) ≤ 200_000_000_000_000_000

facts : (g : given.Over) (c : goal.After-limit_part-share g) → Facts g c
facts g c =
    let us = g.B.Bank.rules c.args.self.now.bank.now in
    let zs = c.args.self.now.multipliers.now in
    let range = g.B.Bank.within c.args.self.now.bank.now in
    let numbers = c.deref-rule-items.result.now in
    let counted = c.deref-rule-items.ensures.0 ∙ c.args.self.now.counted in
    let j = c.loop-rule.rule-index in
    let s : nat_abs c.limit_part-share.result ≤ 1_000_000_000_000_000 = rw c.limit_part-share.ensures (active_owed_size us zs numbers c.args.self.now.asked counted range j c.loop-rule-test.true) in
    let t : nat_abs c.loop-rule.share ≤ 128_000_000_000_000_000 = rw (sym c.loop-rule.share-is ∙ c.loop-rule.invariant) (active_share_size us zs numbers c.args.self.now.asked counted range j (omega arith)) in
    record { small = s; both = omega (arith, add_size c.loop-rule.share c.limit_part-share.result) }

pub overflow_add-share : goal.overflow_add-share
overflow_add-share g c =
    let f = facts g c in
    sum_fits _ c.loop-rule.share c.limit_part-share.result 200_000_000_000_000_000 c.loop-rule.share-is f.small f.both (omega arith)

pub loop-rule-preserved : goal.loop-rule-preserved
loop-rule-preserved g c =
    let f = facts g c in
    let us = g.B.Bank.rules c.args.self.now.bank.now in
    let zs = c.args.self.now.multipliers.now in
    let part : ℕ → ℤ = λ i. owed_of us zs (get_or c.deref-rule-items.result.now i 0) in
    let is = sum_is _ c.loop-rule.share c.limit_part-share.result 200_000_000_000_000_000 c.loop-rule.share-is f.small f.both (omega arith) in
    let inv = c.loop-rule.invariant in
    let more = c.limit_part-share.ensures in
    let step = sum_more part c.loop-rule.rule-index in
    cc

pub returns : goal.returns
returns g c =
    let us = g.B.Bank.rules c.args.self.now.bank.now in
    let zs = c.args.self.now.multipliers.now in
    let numbers = c.deref-rule-items.result.now in
    let all : c.loop-rule.rule-index ≡ length numbers = omega arith in
    let value = c.loop-rule.invariant ∙ ap (sum_to (λ i. owed_of us zs (get_or numbers i 0))) all ∙ active_share us zs numbers c.args.self.now.asked (c.deref-rule-items.ensures.0 ∙ c.args.self.now.counted) in
    record { value = value; small = rw value (share_small us zs c.args.self.now.asked (g.B.Bank.within c.args.self.now.bank.now)) }
