-- The nine calls of a casebook: when each is refused, what it answers and what it leaves. Assumes nothing.
use Rattle.std.specs.Prelude.{ℕ, suc, ◌+◌, Bool, false, cond, not, ◌&&◌, List, [], ◌∷◌, map, length, ℤ, Some, None, Ok, Option, ◌==◌, int_lt, nat_le, nat_lt}
use Rattle.terms.specs.declared.arc.Arc.{Arc}
use Rattle.terms.specs.declared.refusal.Refusal.{Refusal}
use Rattle.terms.specs.declared.refusal.Refusal.TheVariants.{ClaimRange, TooManyRules, MultiplierCount, MultiplierRange, NoCase, SplitPlace, OneSided, PileFull, ShortBuffer, OfferLength, NotConnected, BreaksRule, NotCheaper, NotClosed}
use Rattle.terms.specs.declared.verdict.Verdict.{Verdict}
use Rattle.terms.specs.declared.verdict.Verdict.TheVariants.{Open, Proved, Best, Refuted}
use Rattle.terms.specs.Refusals.{when, naming, earliest, Outcome, decided}
use Rattle.plans.specs.Arcs.{arc_at}
use Rattle.plans.specs.Plans.{next}
use Rattle.plans.specs.Cases.{Case, every, those, kept, gone, size, any}
use Rattle.plans.specs.Firsts.{foremost, written, is_there}
use Rattle.rules.specs.Rules.{Rule}
use Rattle.rules.specs.Lawful.{Problem, holds, cost_of}
use Rattle.amounts.specs.Multipliers.{unfair, lowest}
use Rattle.amounts.specs.Amounts.{amount}
use Rattle.judging.specs.Cases.{Model, mark, standing_in, first_plan, least, at_place, inside, outside, top, under, none_open, piled}

-- The rows of the table of refusals that several calls share.

-- 11: the bank has more than 128 rules
abbrev pub too_many_rules : Problem → Option Refusal
too_many_rules t = when (nat_lt 128 (length t.rules)) TooManyRules

-- 12: not as many multipliers as rules
abbrev pub wrong_count : Problem → List ℤ → Option Refusal
wrong_count t zs = when (not (length zs == length t.rules)) MultiplierCount

-- 13: a multiplier is out of range or of the wrong sign; with the lowest such rule
abbrev pub wrong_multiplier : Problem → List ℤ → Option Refusal
wrong_multiplier t zs = naming MultiplierRange (lowest (unfair t.rules zs))

-- these three together, at the calls that take multipliers
abbrev pub multiplier_rows : Problem → List ℤ → Option Refusal
multiplier_rows t zs = earliest (too_many_rules t ∷ wrong_count t zs ∷ wrong_multiplier t zs ∷ [])

-- 14: no case is open
abbrev pub no_case : Model → Option Refusal
no_case m = when (none_open m.pile) NoCase

-- 18: the buffer is shorter than a plan
abbrev pub short_buffer : Problem → List ℕ → Option Refusal
short_buffer t room = when (nat_lt (length room) t.places) ShortBuffer

-- CLAIM sets the claim and makes the pile one case with every arc; the plan held remains. It answers the cases open.

-- 10: a claim above 1,000,000
abbrev pub claim_rows : ℕ → Option Refusal
claim_rows k = when (nat_lt 1000000 k) ClaimRange

abbrev pub claim_done : Problem → Model → ℕ → Outcome Model ℕ
claim_done t m k = record { answer = Ok 1; left = record { claimed = k; pile = every t.arcs ∷ []; held = m.held } }

abbrev pub on_claim : Problem → Model → ℕ → Outcome Model ℕ
on_claim t m k = decided m (claim_rows k) (claim_done t m k)

-- PRICE answers the least amount over the plans that stand in the working case, and writes the first plan with that amount
-- into the first places of the buffer. Where no plan stands it answers so and writes nothing.

-- what a call that is lent a buffer leaves: the casebook, and what the buffer holds
pub record Lent : Type 0 where
  pub model : Model
  pub buffer : List ℕ

abbrev pub lent : Model → List ℕ → Lent
lent m room = record { model = m; buffer = room }

abbrev pub price_rows : Problem → Model → List ℤ → List ℕ → Option Refusal
price_rows t m zs room = earliest (multiplier_rows t zs ∷ no_case m ∷ short_buffer t room ∷ [])

abbrev pub price_done : Problem → Model → List ℤ → List ℕ → Outcome Lent (Option ℤ)
price_done t m zs room = record {
  answer = Ok (least t zs (top m.pile));
  left = lent m (written (first_plan t zs (top m.pile)) room);
}

abbrev pub on_price : Problem → Model → List ℤ → List ℕ → Outcome Lent (Option ℤ)
on_price t m zs room = decided (lent m room) (price_rows t m zs room) (price_done t m zs room)

-- SAMPLE writes the first plan that stands in the working case into the first places of the buffer, and answers whether one
-- stands.

abbrev pub sample_rows : Problem → Model → List ℕ → Option Refusal
sample_rows t m room = earliest (no_case m ∷ short_buffer t room ∷ [])

abbrev pub sample_done : Problem → Model → List ℕ → Outcome Lent Bool
sample_done t m room = record {
  answer = Ok (is_there (foremost (standing_in t (top m.pile))));
  left = lent m (written (foremost (standing_in t (top m.pile))) room);
}

abbrev pub on_sample : Problem → Model → List ℕ → Outcome Lent Bool
on_sample t m room = decided (lent m room) (sample_rows t m room) (sample_done t m room)

-- STRIKE keeps, of the working case, the arcs on standing plans priced below the mark; TRIM the arcs on standing plans. Each
-- answers how many arcs go.

-- the working case keeps only its arcs on some plan of a list
abbrev pub keeping : Problem → Model → List (List ℕ) → Outcome Model ℕ
keeping t m ps = record {
  answer = Ok (size (gone ps (top m.pile)) (length t.arcs));
  left = piled m (kept ps (top m.pile) ∷ under m.pile);
}

-- whether a plan is priced below the mark of a claim
abbrev pub below : Problem → List ℤ → ℕ → List ℕ → Bool
below t zs claim p = int_lt (amount t zs p) (mark claim)

-- the plans that stand in the working case and are priced below the mark
abbrev pub cheaply : Problem → Model → List ℤ → List (List ℕ)
cheaply t m zs = those (below t zs m.claimed) (standing_in t (top m.pile))

abbrev pub strike_rows : Problem → Model → List ℤ → Option Refusal
strike_rows t m zs = earliest (multiplier_rows t zs ∷ no_case m ∷ [])

abbrev pub on_strike : Problem → Model → List ℤ → Outcome Model ℕ
on_strike t m zs = decided m (strike_rows t m zs) (keeping t m (cheaply t m zs))

abbrev pub trim_rows : Model → Option Refusal
trim_rows m = no_case m

abbrev pub on_trim : Problem → Model → Outcome Model ℕ
on_trim t m = decided m (trim_rows m) (keeping t m (standing_in t (top m.pile)))

-- SPLIT: the working case keeps, at a place, only the routes outside a set; a copy with only those inside goes on top. It
-- answers the cases open.

-- 15: a place outside 1 to n
abbrev pub wrong_place : Problem → ℕ → Option Refusal
wrong_place t k = when (not (nat_le 1 k && nat_le k t.places)) SplitPlace

-- whether one side of a split has no arc at the place
abbrev pub one_sided : List Arc → ℕ → ℕ → Case → Bool
one_sided arcs k routes s =
    not (any (at_place arcs k (inside arcs k routes s)) (length arcs) && any (at_place arcs k (outside arcs k routes s)) (length arcs))

-- 16: one side of the split has none
abbrev pub empty_side : Problem → Model → ℕ → ℕ → Option Refusal
empty_side t m k routes = when (one_sided t.arcs k routes (top m.pile)) OneSided

-- 17: 1,024 cases are open
abbrev pub full_pile : Model → Option Refusal
full_pile m = when (nat_le 1024 (length m.pile)) PileFull

abbrev pub split_rows : Problem → Model → ℕ → ℕ → Option Refusal
split_rows t m k routes = earliest (no_case m ∷ wrong_place t k ∷ empty_side t m k routes ∷ full_pile m ∷ [])

abbrev pub split_done : Problem → Model → ℕ → ℕ → Outcome Model ℕ
split_done t m k routes = record {
  answer = Ok (1 + length m.pile);
  left = piled m (inside t.arcs k routes (top m.pile) ∷ outside t.arcs k routes (top m.pile) ∷ under m.pile);
}

abbrev pub on_split : Problem → Model → ℕ → ℕ → Outcome Model ℕ
on_split t m k routes = decided m (split_rows t m k routes) (split_done t m k routes)

-- CLOSE removes the working case, if no plan stands in it that is priced below the mark. It answers the cases open.

-- the least amount, where it is below the mark
abbrev pub undercut : ℤ → Option ℤ → Option ℤ
undercut v None = None
undercut v (Some w) = cond (int_lt w v) (Some w) None

-- 23: the least amount is below the mark; with that amount
abbrev pub not_closed : Problem → Model → List ℤ → Option Refusal
not_closed t m zs = naming NotClosed (undercut (mark m.claimed) (least t zs (top m.pile)))

abbrev pub close_rows : Problem → Model → List ℤ → Option Refusal
close_rows t m zs = earliest (multiplier_rows t zs ∷ no_case m ∷ not_closed t m zs ∷ [])

abbrev pub close_done : Model → Outcome Model ℕ
close_done m = record { answer = Ok (length (under m.pile)); left = piled m (under m.pile) }

abbrev pub on_close : Problem → Model → List ℤ → Outcome Model ℕ
on_close t m zs = decided m (close_rows t m zs) (close_done m)

-- OFFER judges arc numbers against the chart as sealed, and holds the plan. It answers the plan's cost.

-- 19: not as many arcs as places
abbrev pub wrong_length : Problem → List ℕ → Option Refusal
wrong_length t p = when (not (length p == t.places)) OfferLength

-- the first place from k on, node v reached, whose arc is missing, of another place or unconnected
abbrev pub stray : List Arc → ℕ → ℕ → List ℕ → Option ℕ
stray arcs k v [] = None
stray arcs k v (a ∷ p) = cond (next arcs k v a) (stray arcs (suc k) (arc_at arcs a).end p) (Some k)

-- 20: an arc is missing, of another place or unconnected; with the first such place
abbrev pub not_connected : Problem → List ℕ → Option Refusal
not_connected t p = naming NotConnected (stray t.arcs 1 0 p)

-- for each rule, whether a plan breaks it
abbrev pub broken : List Arc → List ℕ → List Rule → List Bool
broken arcs p us = map (λ u. not (holds arcs p u)) us

-- 21: the plan breaks a rule; with the lowest such rule
abbrev pub breaks_rule : Problem → List ℕ → Option Refusal
breaks_rule t p = naming BreaksRule (lowest (broken t.arcs p t.rules))

-- whether a plan is no cheaper than the one held
abbrev pub no_cheaper : Problem → Option (List ℕ) → List ℕ → Bool
no_cheaper t None p = false
no_cheaper t (Some q) p = nat_le (cost_of t q) (cost_of t p)

-- 22: the plan is no cheaper than the one held
abbrev pub not_cheaper : Problem → Model → List ℕ → Option Refusal
not_cheaper t m p = when (no_cheaper t m.held p) NotCheaper

abbrev pub offer_rows : Problem → Model → List ℕ → Option Refusal
offer_rows t m p = earliest (too_many_rules t ∷ wrong_length t p ∷ not_connected t p ∷ breaks_rule t p ∷ not_cheaper t m p ∷ [])

abbrev pub offer_done : Problem → Model → List ℕ → Outcome Model ℕ
offer_done t m p = record { answer = Ok (cost_of t p); left = record { claimed = m.claimed; pile = m.pile; held = Some p } }

abbrev pub on_offer : Problem → Model → List ℕ → Outcome Model ℕ
on_offer t m p = decided m (offer_rows t m p) (offer_done t m p)

-- VERDICT is refuted if the plan held costs less than the claim. Else, with no case open, it is best if that cost equals the
-- claim, otherwise proved. Else it is open. No row refuses it.

abbrev pub judged : Problem → Model → Option (List ℕ) → Verdict
judged t m None = cond (none_open m.pile) Proved Open
judged t m (Some p) =
    cond (nat_lt (cost_of t p) m.claimed) Refuted
    (cond (none_open m.pile) (cond (cost_of t p == m.claimed) Best Proved) Open)

abbrev pub verdict_of : Problem → Model → Verdict
verdict_of t m = judged t m m.held

abbrev pub on_verdict : Problem → Model → Outcome Model Verdict
on_verdict t m = record { answer = Ok (verdict_of t m); left = m }

-- A call, with any arguments: multipliers and arc numbers as they come, a buffer by what it holds, a set of routes by the
-- number of its bits.
pub data Call : Type 0 where
  claim : ℕ → Call
  price : List ℤ → List ℕ → Call
  sample : List ℕ → Call
  strike : List ℤ → Call
  trim : Call
  split : ℕ → ℕ → Call
  close : List ℤ → Call
  offer : List ℕ → Call
  verdict : Call

-- the casebook after a call
abbrev pub after : Problem → Model → Call → Model
after t m (claim k) = (on_claim t m k).left
after t m (price zs room) = (on_price t m zs room).left.model
after t m (sample room) = (on_sample t m room).left.model
after t m (strike zs) = (on_strike t m zs).left
after t m trim = (on_trim t m).left
after t m (split k routes) = (on_split t m k routes).left
after t m (close zs) = (on_close t m zs).left
after t m (offer p) = (on_offer t m p).left
after t m verdict = (on_verdict t m).left

-- the casebook after a list of calls, one after another, refused ones among them
abbrev pub run : Problem → List Call → Model → Model
run t [] m = m
run t (c ∷ cs) m = run t cs (after t m c)
