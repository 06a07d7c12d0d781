use Rattle.amounts.proofs.Exchange.{priced_by_sum}
use Rattle.amounts.proofs.theorems.priced_by_sum.Goals as goal

pub returns : goal.returns
returns c = priced_by_sum
