-- The bank that a casebook of a dossier is opened on. Assumes nothing.
use Rattle.std.specs.Prelude.{List, ◌++◌}
use Rattle.rules.specs.declared.once.Once.{Once}
use Rattle.rules.specs.declared.order.Order.{Order}
use Rattle.rules.specs.declared.budget.Budget.{Budget}
use Rattle.rules.specs.declared.pair.Pair.{Pair}
use Rattle.rules.specs.Rules.{Rule}
use Rattle.rules.specs.Makes.{once_rules, order_rules, budget_rules}

-- the rules that the bank of a dossier means: those of once, then those of order, then that of budget
abbrev pub rules_in : Pair Once (Pair Order Budget) → List Rule
rules_in k = once_rules k.left.routes.bits ++ (order_rules k.right.left.pairs.now ++ budget_rules k.right.right.limit k.right.right.table.now)
