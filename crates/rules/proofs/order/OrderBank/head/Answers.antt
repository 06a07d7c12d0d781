use Rattle.std.proofs.Common.{rules}
use Rattle.rules.proofs.Orders.{order_head}
use Rattle.rules.proofs.order.OrderBank.head.Goals as goal

pub returns : goal.returns
returns c = search (rules, order_head)
