use Rattle.std.proofs.Common.{List, replicate, pos, None, ap}
use Rattle.rules.specs.declared.order.Precedence.{Precedence}
use Rattle.unsealed.specs.Books.{Book}
use Rattle.unsealed.proofs.book.RuleBook.new.Goals as goal

-- a book without once and budget
empty : List Precedence → Book
empty pairs = record { once = None; pairs = pairs; limit = None; table = replicate 2048 (pos 0) }

pub returns : goal.returns
unfolding empty
returns c = ap empty c.new.ensures
