-- What is answered of the rules of a list of pairs. Assumes nothing.
use Rattle.std.proofs.Common.{◌≡◌, ℕ, ◌<◌, List, pos, neg_ℤ, Some}
use Rattle.terms.specs.declared.rule.Sense.TheVariants.{AtMost}
use Rattle.rules.specs.declared.order.Precedence.{Precedence}
use Rattle.rules.specs.Rules.{counted, head_of}
use Rattle.rules.specs.Makes.{order_rule, order_rules}
use Rattle.rules.proofs.Given.{some_head}
use Rattle.rules.proofs.Each.{rule_at}

-- each rule says at most -1
pub order_head : (es : List Precedence) (r : ℕ) → r < counted (order_rules es) → Some (record { sense = AtMost; limit = neg_ℤ (pos 1) }) ≡ head_of (order_rules es) r
order_head es r h =
    some_head (order_rules es) r _ h (rule_at order_rule es r (record { earlier = 0; later = 0 }) h)
