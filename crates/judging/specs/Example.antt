-- A chart of two places and four arcs, with the rules once on route 1 and on route 2, route 2 before route 1, and an empty
-- budget; and what the calls do on it. Assumes nothing.
use Rattle.std.specs.Prelude.{◌≡◌, ℕ, Bool, true, false, List, [], ◌∷◌, ◌++◌, ℤ, pos, neg_ℤ, Some, Ok, Err}
use Rattle.terms.specs.declared.arc.Arc.{Arc}
use Rattle.terms.specs.declared.refusal.Refusal.TheVariants.{NotClosed, BreaksRule, OneSided, MultiplierRange}
use Rattle.terms.specs.declared.verdict.Verdict.TheVariants.{Best}
use Rattle.terms.specs.Refusals.{number_of}
use Rattle.plans.specs.Plans.{plans}
use Rattle.rules.specs.Rules.{Rule}
use Rattle.rules.specs.declared.order.Precedence.{Precedence}
use Rattle.rules.specs.Makes.{once_rules, order_rule, order_rules, budget_rules}
use Rattle.rules.specs.Lawful.{Problem, Lawful, total}
use Rattle.judging.specs.Cases.{Model, opened, top}
use Rattle.judging.specs.Calls.{claim, close, offer, on_claim, on_price, on_strike, on_split, on_close, on_offer, run, verdict_of}
use Rattle.judging.specs.Theorem.{Posed}

-- route 2 is to be tested before route 1
abbrev pub two_first : Precedence
two_first = record { earlier = 2; later = 1 }

-- the rules of three makes, one after another: once with the set of routes 1 and 2 (by the number of its bits), order with
-- the one pair, budget with limit 0 and no table
abbrev pub example_rules : List Rule
example_rules = once_rules 6 ++ (order_rules (two_first ∷ []) ++ budget_rules (pos 0) [])

-- an arc from node 0 to node 0
abbrev pub straight : ℕ → ℕ → ℕ → Arc
straight k q minutes = record { place = k; start = 0; end = 0; route = q; minutes = minutes }

abbrev pub example : Problem
example = record {
  places = 2;
  arcs = straight 1 1 4 ∷ straight 1 2 9 ∷ straight 2 1 3 ∷ straight 2 2 10 ∷ [];
  rules = example_rules;
}

-- the casebook with a claim
abbrev pub claiming : ℕ → Model
claiming k = (on_claim example (opened example) k).left

-- a multiplier for rule 0, and for rule 2, and 0 for the others
abbrev pub for_rule0 : ℤ → List ℤ
for_rule0 z = z ∷ pos 0 ∷ pos 0 ∷ pos 0 ∷ []

abbrev pub for_rule2 : ℤ → List ℤ
for_rule2 z = pos 0 ∷ pos 0 ∷ z ∷ pos 0 ∷ []

-- two arcs
abbrev pub two : ℕ → ℕ → List ℕ
two a b = a ∷ b ∷ []

-- which of the four arcs stand in the working case
abbrev pub marks : Model → List Bool
marks m = top m.pile 0 ∷ top m.pile 1 ∷ top m.pile 2 ∷ top m.pile 3 ∷ []

-- a buffer of three places
abbrev pub eights : List ℕ
eights = 8 ∷ 8 ∷ 8 ∷ []

pub record Edges : Type 0 where
  pub posed : Posed example
  pub all : plans 2 example.arcs ≡ two 0 2 ∷ two 0 3 ∷ two 1 2 ∷ two 1 3 ∷ []
  -- with 5,000 for rule 0 the least amount is 12,000, with plan 0 2, which is not lawful
  pub price : (on_price example (claiming 12) (for_rule0 (pos 5000)) eights).answer ≡ Ok (Some (pos 12000))
  pub plan : (on_price example (claiming 12) (for_rule0 (pos 5000)) eights).left.buffer ≡ 0 ∷ 2 ∷ 8 ∷ []
  pub unlawful : Lawful example (two 0 2) → ⊥
  -- so claim 12 closes, and claim 13 is refused 23 with 12,000
  pub closes : (on_close example (claiming 12) (for_rule0 (pos 5000))).answer ≡ Ok 0
  pub stays : (on_close example (claiming 13) (for_rule0 (pos 5000))).answer ≡ Err (NotClosed (pos 12000))
  pub number : number_of (NotClosed (pos 12000)) ≡ (23, pos 12000)
  -- a strike with the same removes only arc 3 at claim 14, and nothing at claim 15
  pub strikes : (on_strike example (claiming 14) (for_rule0 (pos 5000))).answer ≡ Ok 1
  pub struck : marks (on_strike example (claiming 14) (for_rule0 (pos 5000))).left ≡ true ∷ true ∷ true ∷ false ∷ []
  pub nothing : (on_strike example (claiming 15) (for_rule0 (pos 5000))).answer ≡ Ok 0
  pub unstruck : marks (on_strike example (claiming 15) (for_rule0 (pos 5000))).left ≡ true ∷ true ∷ true ∷ true ∷ []
  -- rule 2 totals 0 on plan 1 2 and 2 on plan 0 3
  pub ordered : total example.arcs (order_rule two_first) (two 1 2) ≡ pos 0
  pub disordered : total example.arcs (order_rule two_first) (two 0 3) ≡ pos 2
  -- offer 0 2 is refused 21 with rule 0
  pub refused : (on_offer example (claiming 12) (two 0 2)).answer ≡ Err (BreaksRule 0)
  pub refusal : number_of (BreaksRule 0) ≡ (21, pos 0)
  -- -1 is a fair multiplier for rule 0, and refused 13 for rule 2
  pub exactly : (on_close example (claiming 0) (for_rule0 (neg_ℤ (pos 1)))).answer ≡ Ok 0
  pub at_most : (on_close example (claiming 0) (for_rule2 (neg_ℤ (pos 1)))).answer ≡ Err (MultiplierRange 2)
  -- a split at place 1 by route 1 gives two cases; by routes 1 and 2 it is refused 16
  pub split : (on_split example (claiming 12) 1 2).answer ≡ Ok 2
  pub sides : (on_split example (claiming 12) 1 6).answer ≡ Err OneSided
  -- with no multipliers but 0 claim 12 does not close; once it is closed, the offer of plan 1 2 makes the verdict best
  pub unclosed : (on_close example (claiming 12) (for_rule0 (pos 0))).answer ≡ Err (NotClosed (pos 7000))
  pub best : verdict_of example (run example (claim 12 ∷ close (for_rule0 (pos 5000)) ∷ offer (two 1 2) ∷ []) (opened example)) ≡ Best
