use Rattle.std.proofs.Common.{◌≡◌, length, sym, arith}
use Rattle.amounts.specs.Multipliers.{unfair}
use Rattle.amounts.proofs.Lowest.{lowest_below, unfair_length, fair_from}
use Rattle.casebooks.proofs.Working.{few_rules}
use Rattle.casebooks.proofs.desk.rows.multiplier_row.Goals as goal

pub overflow_cast-result : goal.overflow_cast-result
overflow_cast-result g c =
    let us = g.B.Bank.rules c.args.bank.now in
    let zs = c.args.multipliers.now in
    let few = few_rules us c.in_ok-rules_row.ensures in
    let many : length zs ≡ length us = omega (arith, c.if-multipliers-count.false, c.count.ensures, few) in
    let l = lowest_below (unfair us zs) c.in-Some.rule (sym c.in-Some.ensures) in
    record { fits = omega (arith, l, unfair_length us zs many, few) }

pub new-requires : goal.new-requires
new-requires g c =
    let us = g.B.Bank.rules c.args.bank.now in
    let zs = c.args.multipliers.now in
    let few = few_rules us c.in_ok-rules_row.ensures in
    let many : length zs ≡ length us = omega (arith, c.if-multipliers-count.false, c.count.ensures, few) in
    record { few = few; fair = fair_from us zs many (sym c.in-None.ensures) }
