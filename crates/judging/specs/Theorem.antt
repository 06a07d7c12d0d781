-- What a verdict means, after any calls. Assumes nothing.
use Rattle.std.specs.Prelude.{◌≡◌, ℕ, ◌+◌, ◌^◌, ◌<◌, ◌≤◌, Bool, true, false, cond, ◌&&◌, ◌⊎◌, List, [], ◌∷◌, length, ℤ, is_ok, Some, None, Err, Option, ◌≢◌, nat_le, nat_lt}
use Rattle.terms.specs.declared.rule.Sense.TheVariants.{Exactly}
use Rattle.terms.specs.declared.refusal.Refusal.TheVariants.{PileFull}
use Rattle.terms.specs.declared.verdict.Verdict.TheVariants.{Proved, Best, Refuted}
use Rattle.plans.specs.Arcs.{Sealed}
use Rattle.plans.specs.Cases.{Case, size}
use Rattle.rules.specs.Rules.{InRange}
use Rattle.rules.specs.Lawful.{Problem, Lawful, cost_of}
use Rattle.amounts.specs.Multipliers.{fair}
use Rattle.judging.specs.Cases.{Model, opened}
use Rattle.judging.specs.Calls.{on_claim, on_split, on_offer, verdict_of, Call, claim, price, sample, strike, trim, split, close, offer, verdict, after, run}

-- a sealed chart, and a list of rules in range: all that is known of a bank
pub record Posed (t : Problem) : Type 0 where
  pub chart : Sealed t.places t.arcs
  pub rules : InRange t.rules

-- at most 128 rules: with more, every close and every offer is refused
abbrev pub Few : Problem → Type 0
Few t = length t.rules ≤ 128

-- no lawful plan of the chart costs less than c
abbrev pub NoneUnder : Problem → ℕ → Type 0
NoneUnder t c = (p : List ℕ) → Lawful t p → c ≤ cost_of t p

-- the verdict is proved or best
abbrev pub Confirmed : Problem → Model → Type 0
Confirmed t m = (verdict_of t m ≡ Proved) ⊎ (verdict_of t m ≡ Best)

-- a plan is held, it is lawful, and its cost is as told
abbrev pub Holds : Problem → Model → (ℕ → Type 0) → Type 0
Holds t m Cost = (p : List ℕ) × ((m.held ≡ Some p) × (Lawful t p × Cost (cost_of t p)))

-- each from -1,000,000,000 to 1,000,000,000
abbrev pub ranged : List ℤ → Bool
ranged [] = true
ranged (z ∷ zs) = fair Exactly z && ranged zs

-- a split at a place up to 32 by routes up to 63, or a close by multipliers in range: calls that a program can make
abbrev pub finishing : Call → Bool
finishing (claim k) = false
finishing (price zs room) = false
finishing (sample room) = false
finishing (strike zs) = false
finishing trim = false
finishing (split k routes) = nat_le k 32 && nat_lt routes (2 ^ 64)
finishing (close zs) = ranged zs
finishing (offer p) = false
finishing verdict = false

-- splits and closes only
abbrev pub all_finishing : List Call → Bool
all_finishing [] = true
all_finishing (c ∷ cs) = finishing c && all_finishing cs

-- what a verdict means at a casebook, and that one which tells more can be had there
pub record Meant (t : Problem) (m : Model) : Type 0 where
  -- proved or best: no lawful plan costs less than the claim
  pub confirmed : Confirmed t m → NoneUnder t m.claimed
  -- best: the plan held is lawful and costs exactly the claim
  pub best : verdict_of t m ≡ Best → Holds t m (λ c. c ≡ m.claimed)
  -- refuted: the plan held is lawful and costs less than the claim
  pub refuted : verdict_of t m ≡ Refuted → Holds t m (λ c. c < m.claimed)
  -- if no lawful plan costs less than the claim, and there are at most 128 rules, some further list of splits and closes
  -- only makes the verdict proved or best
  pub confirmable : Few t → NoneUnder t m.claimed → (more : List Call) × ((all_finishing more ≡ true) × Confirmed t (run t more m))
  -- if a lawful plan costs less, whichever it is, and there are at most 128 rules, the verdict is refuted already or the
  -- offer of that plan makes it so
  pub refutable : Few t → (p : List ℕ) → Lawful t p → cost_of t p < m.claimed → (verdict_of t m ≡ Refuted) ⊎ (verdict_of t (after t m (offer p)) ≡ Refuted)

-- the claim after a call at m, with k before it: that of the call, if it is a claim that is accepted
abbrev pub claim_by : Problem → Model → Call → ℕ → ℕ
claim_by t m (claim j) k = cond (is_ok (on_claim t m j).answer) j k
claim_by t m (price zs room) k = k
claim_by t m (sample room) k = k
claim_by t m (strike zs) k = k
claim_by t m trim k = k
claim_by t m (split j routes) k = k
claim_by t m (close zs) k = k
claim_by t m (offer p) k = k
claim_by t m verdict k = k

-- the claim accepted last in a list of calls from m on, else k
abbrev pub last_claim : Problem → List Call → Model → ℕ → ℕ
last_claim t [] m k = k
last_claim t (c ∷ cs) m k = last_claim t cs (after t m c) (claim_by t m c k)

-- the plan held after a call at m, with o before it: that of the call, if it is an offer that is accepted
abbrev pub offer_by : Problem → Model → Call → Option (List ℕ) → Option (List ℕ)
offer_by t m (claim j) o = o
offer_by t m (price zs room) o = o
offer_by t m (sample room) o = o
offer_by t m (strike zs) o = o
offer_by t m trim o = o
offer_by t m (split j routes) o = o
offer_by t m (close zs) o = o
offer_by t m (offer p) o = cond (is_ok (on_offer t m p).answer) (Some p) o
offer_by t m verdict o = o

-- the plan of the offer accepted last in a list of calls from m on, else o
abbrev pub last_offer : Problem → List Call → Model → Option (List ℕ) → Option (List ℕ)
last_offer t [] m o = o
last_offer t (c ∷ cs) m o = last_offer t cs (after t m c) (offer_by t m c o)

-- after a list of calls the claim is the one accepted last, else 0, and the plan held that of the offer accepted last, if any
pub record Recalled (t : Problem) (calls : List Call) : Type 0 where
  pub claim : (run t calls (opened t)).claimed ≡ last_claim t calls (opened t) 0
  pub held : (run t calls (opened t)).held ≡ last_offer t calls (opened t) None

-- THE THEOREM. For every sealed chart, every bank's list of rules in range, and every list of the nine calls with any
-- arguments, refused ones among them: the claim is the one accepted last and the plan held that of the offer accepted last;
-- and the verdict means there what is said above. Nothing is supposed of the number of open cases.
abbrev pub VerdictMeans : Type 0
VerdictMeans = (t : Problem) → Posed t → (calls : List Call) → Recalled t calls × Meant t (run t calls (opened t))

-- over n arcs, a case with h cases under it has at most 1,024 - h of them
abbrev pub Sized : ℕ → List Case → Type 0
Sized n [] = Unit {0}
Sized n (s ∷ rest) = (size s n + length rest ≤ 1024) × Sized n rest

-- after any calls the pile has room: no split, whatever its place and routes, is refused because 1,024 cases are open
abbrev pub NeverFull : Type 0
NeverFull = (t : Problem) → Posed t → (calls : List Call) →
    Sized (length t.arcs) (run t calls (opened t)).pile
    × ((k routes : ℕ) → (on_split t (run t calls (opened t)) k routes).answer ≢ Err PileFull)
