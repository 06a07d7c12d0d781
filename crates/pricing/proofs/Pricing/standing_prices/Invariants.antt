use Rattle.std.proofs.Common.{◌≡◌, ℕ, ◌<◌, ◌≤◌, cond, length, get_or, pos}
use Rattle.plans.specs.Arcs.{arc_at}
use Rattle.amounts.specs.Amounts.{arc_price}
use Rattle.ways.specs.Amounts.{marked}
use Rattle.pricing.proofs.Pricing.standing_prices.Given as goal

-- what lies behind is priced, and the rest is 0
abbrev pub invariant-loop-i : goal.invariant-loop-i
invariant-loop-i g l = record {
  long : length l.prices ≡ 1024;
  done : (a : ℕ) → a < l.i → get_or l.prices a (pos 0) ≡ cond (marked l.standing a) (arc_price (g.B.Bank.rules l.self.bank.now) l.self.multipliers.now (arc_at l.arc-items a)) (pos 0);
  rest : (a : ℕ) → l.i ≤ a → get_or l.prices a (pos 0) ≡ pos 0;
}
