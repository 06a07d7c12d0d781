-- The rules that a dossier drafts: what they are, and the forms that add to them. Assumes nothing.
use Rattle.std.specs.Prelude.{ℕ, ◌||◌, List, [], ◌∷◌, ◌++◌, length, replicate, ℤ, pos, is_some, Some, None, Ok, Option, nat_le}
use Rattle.terms.specs.declared.refusal.Refusal.{Refusal}
use Rattle.terms.specs.declared.refusal.Refusal.TheVariants.{NotHere, PlaceRange, RouteRange}
use Rattle.terms.specs.declared.routes.RouteSet.{RouteSet}
use Rattle.terms.specs.Refusals.{when, earliest, Outcome, decided}
use Rattle.terms.specs.Routes.{routes_of}
use Rattle.rules.specs.declared.order.Precedence.{Precedence}
use Rattle.rules.specs.Rules.{Rule}
use Rattle.rules.specs.Makes.{once_rules, order_rules, budget_rules}
use Rattle.unsealed.specs.declared.book.RuleBook.{RuleBook}
use Rattle.std.specs.List.{list_any}
use Rattle.unsealed.specs.Items.{no_route, set_of, place_outside, route_outside, stored}

-- the rules drafted so far: the set of routes of once, if it came; the pairs of order; the limit of budget, if it came, and its
-- table, which is 0 everywhere until then
pub record Book : Type 0 where
  pub once : Option ℕ
  pub pairs : List Precedence
  pub limit : Option ℤ
  pub table : List ℤ

-- no rules
abbrev pub new_book : Book
new_book = record { once = None; pairs = []; limit = None; table = replicate 2048 (pos 0) }

-- a set of routes as the number of its bits
abbrev pub bits_in : Option RouteSet → Option ℕ
bits_in None = None
bits_in (Some s) = Some s.bits

abbrev pub book_of : RuleBook → Book
book_of b = record { once = bits_in b.once; pairs = b.pairs.items; limit = b.limit; table = b.entries }

-- the set of once, empty where no once came
abbrev pub set_in : Option ℕ → ℕ
set_in None = 0
set_in (Some bits) = bits

-- the limit of budget, 0 where no budget came
abbrev pub limit_in : Option ℤ → ℤ
limit_in None = pos 0
limit_in (Some z) = z

-- the rules of a dossier: those of once, then those of order, then that of budget
abbrev pub rules_of : Book → List Rule
rules_of b = once_rules (set_in b.once) ++ (order_rules b.pairs ++ budget_rules (limit_in b.limit) b.table)

-- ONCE comes at most once, and answers how many routes it names
abbrev pub once_rows : Book → List ℕ → Option Refusal
once_rows b qs = earliest (when (is_some b.once) NotHere ∷ when (list_any no_route qs) RouteRange ∷ [])

abbrev pub on_once : Book → List ℕ → Outcome Book ℕ
on_once b qs = decided b (once_rows b qs) (record {
  answer = Ok (length (routes_of (set_of qs)));
  left = record { once = Some (set_of qs); pairs = b.pairs; limit = b.limit; table = b.table };
})

-- ORDER comes at most 64 times, and answers 1
abbrev pub order_rows : Book → ℕ → ℕ → Option Refusal
order_rows b earlier later = earliest (when (nat_le 64 (length b.pairs)) NotHere ∷ when (no_route earlier || no_route later) RouteRange ∷ [])

abbrev pub on_order : Book → ℕ → ℕ → Outcome Book ℕ
on_order b earlier later = decided b (order_rows b earlier later) (record {
  answer = Ok 1;
  left = record { once = b.once; pairs = b.pairs ++ record { earlier = earlier; later = later } ∷ []; limit = b.limit; table = b.table };
})

-- BUDGET comes at most once, and answers 1; n is the number of places
abbrev pub budget_rows : Book → ℕ → List (ℕ × ℕ × ℤ) → Option Refusal
budget_rows b n xs = earliest (when (is_some b.limit) NotHere ∷ when (list_any (place_outside n) xs) PlaceRange ∷ when (list_any route_outside xs) RouteRange ∷ [])

abbrev pub on_budget : Book → ℕ → ℤ → List (ℕ × ℕ × ℤ) → Outcome Book ℕ
on_budget b n limit xs = decided b (budget_rows b n xs) (record {
  answer = Ok 1;
  left = record { once = b.once; pairs = b.pairs; limit = Some limit; table = stored b.table xs };
})
