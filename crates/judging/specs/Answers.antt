-- What the answers of price, sample, strike, trim and close mean, in terms of plans. Assumes nothing.
use Rattle.std.specs.Prelude.{◌≡◌, ℕ, true, false, not, ◌&&◌, List, ◌++◌, length, drop, ℤ, ◌≤ℤ◌, ◌<ℤ◌, is_ok, Some, None, Ok, Err, ◌≢◌}
use Rattle.terms.specs.declared.refusal.Refusal.TheVariants.{NotClosed}
use Rattle.terms.specs.Refusals.{Outcome}
use Rattle.plans.specs.Cases.{Case, on, size}
use Rattle.plans.specs.Words.{Iff, Stands, NoneStands, First, FirstLeast}
use Rattle.rules.specs.Lawful.{Problem}
use Rattle.amounts.specs.Amounts.{amount}
use Rattle.judging.specs.Cases.{Model, mark, top, under, piled}
use Rattle.judging.specs.Calls.{on_price, on_sample, on_strike, on_trim, on_close, strike_rows}

-- a call that is not refused
abbrev pub Accepted : {S A : Type 0} → Outcome S A → Type 0
Accepted o = is_ok o.answer ≡ true

-- a plan that stands in the working case
abbrev pub Working : Problem → Model → List ℕ → Type 0
Working t m p = Stands t.places t.arcs (top m.pile) p

-- no plan stands in the working case
abbrev pub NoneWorking : Problem → Model → Type 0
NoneWorking t m = NoneStands t.places t.arcs (top m.pile)

-- the first plan that stands in the working case
abbrev pub FirstWorking : Problem → Model → List ℕ → Type 0
FirstWorking t m p = First t.places t.arcs (top m.pile) p

-- the first plan with the least amount of those that stand in the working case
abbrev pub FirstPriced : Problem → Model → List ℤ → List ℕ → Type 0
FirstPriced t m zs p = FirstLeast t.places t.arcs (top m.pile) (amount t zs) p

-- an accepted price answers z exactly if z is the least amount; it writes the first plan with that amount into the first
-- places of the buffer, and the later places keep what they held. It answers "none" exactly if no plan stands, and then
-- writes nothing. The casebook stays as it was.
pub record PriceMeans (t : Problem) (m : Model) (zs : List ℤ) (room : List ℕ) : Type 0 where
  pub amount : (z : ℤ) → Iff ((on_price t m zs room).answer ≡ Ok (Some z)) ((p : List ℕ) × (FirstPriced t m zs p × (amount t zs p ≡ z)))
  pub plan : (p : List ℕ) → FirstPriced t m zs p → (on_price t m zs room).left.buffer ≡ p ++ drop (length p) room
  pub none : Iff ((on_price t m zs room).answer ≡ Ok None) (NoneWorking t m)
  pub nothing : NoneWorking t m → (on_price t m zs room).left.buffer ≡ room
  pub same : (on_price t m zs room).left.model ≡ m

-- an accepted sample answers "yes" exactly if a plan stands, and writes the first that does; it answers "no" exactly if none
-- stands, and then writes nothing. The casebook stays as it was.
pub record SampleMeans (t : Problem) (m : Model) (room : List ℕ) : Type 0 where
  pub some : Iff ((on_sample t m room).answer ≡ Ok true) ((p : List ℕ) × FirstWorking t m p)
  pub plan : (p : List ℕ) → FirstWorking t m p → (on_sample t m room).left.buffer ≡ p ++ drop (length p) room
  pub none : Iff ((on_sample t m room).answer ≡ Ok false) (NoneWorking t m)
  pub nothing : NoneWorking t m → (on_sample t m room).left.buffer ≡ room
  pub same : (on_sample t m room).left.model ≡ m

-- every plan that stands in the working case meets the mark, and every one that goes through an arc does
abbrev pub AllMeet : Problem → Model → List ℤ → Type 0
AllMeet t m zs = (p : List ℕ) → Working t m p → mark m.claimed ≤ℤ amount t zs p

abbrev pub AllThroughMeet : Problem → Model → List ℤ → ℕ → Type 0
AllThroughMeet t m zs a = (p : List ℕ) → Working t m p → on a p ≡ true → mark m.claimed ≤ℤ amount t zs p

-- some plan that stands in the working case is priced below the mark, and some one that goes through an arc is
abbrev pub SomeBelow : Problem → Model → List ℤ → Type 0
SomeBelow t m zs = (p : List ℕ) × (Working t m p × (amount t zs p <ℤ mark m.claimed))

abbrev pub SomeThroughBelow : Problem → Model → List ℤ → ℕ → Type 0
SomeThroughBelow t m zs a = (p : List ℕ) × (Working t m p × ((on a p ≡ true) × (amount t zs p <ℤ mark m.claimed)))

-- the arcs that one case has and another has not
abbrev pub lost : Case → Case → Case
lost s r a = s a && not (r a)

-- a call that answers how many arcs it removes from the working case, and leaves all else as it was
pub record Removes (t : Problem) (m : Model) (o : Outcome Model ℕ) : Type 0 where
  pub count : o.answer ≡ Ok (size (lost (top m.pile) (top o.left.pile)) (length t.arcs))
  pub cases : length o.left.pile ≡ length m.pile
  pub others : under o.left.pile ≡ under m.pile
  pub claim : o.left.claimed ≡ m.claimed
  pub held : o.left.held ≡ m.held

-- an accepted strike removes an arc of the working case exactly if every standing plan through it meets the mark; what
-- remains are the arcs on standing plans priced below the mark
pub record StrikeMeans (t : Problem) (m : Model) (zs : List ℤ) : Type 0 where
  pub removed : (a : ℕ) → top m.pile a ≡ true → Iff (top (on_strike t m zs).left.pile a ≡ false) (AllThroughMeet t m zs a)
  pub remains : (a : ℕ) → Iff (top (on_strike t m zs).left.pile a ≡ true) (SomeThroughBelow t m zs a)
  pub rest : Removes t m (on_strike t m zs)

-- an accepted trim removes an arc of the working case exactly if no standing plan goes through it; what remains are the arcs
-- on standing plans
pub record TrimMeans (t : Problem) (m : Model) : Type 0 where
  pub removed : (a : ℕ) → top m.pile a ≡ true → Iff (top (on_trim t m).left.pile a ≡ false) ((p : List ℕ) → Working t m p → on a p ≢ true)
  pub remains : (a : ℕ) → Iff (top (on_trim t m).left.pile a ≡ true) ((p : List ℕ) × (Working t m p × (on a p ≡ true)))
  pub rest : Removes t m (on_trim t m)

-- a close is refused because the case does not close exactly if some standing plan is priced below the mark, and the amount
-- beside the refusal is the least; all stays as it was. If every standing plan meets the mark, or none stands, it removes
-- exactly the working case, and answers the cases open.
pub record CloseMeans (t : Problem) (m : Model) (zs : List ℤ) : Type 0 where
  pub refused : Iff ((z : ℤ) × ((on_close t m zs).answer ≡ Err (NotClosed z))) (SomeBelow t m zs)
  pub beside : (z : ℤ) → (on_close t m zs).answer ≡ Err (NotClosed z) → (p : List ℕ) × (FirstPriced t m zs p × (amount t zs p ≡ z))
  pub stays : SomeBelow t m zs → (on_close t m zs).left ≡ m
  pub accepted : Iff (Accepted (on_close t m zs)) (AllMeet t m zs)
  pub answer : AllMeet t m zs → (on_close t m zs).answer ≡ Ok (length (under m.pile))
  pub closed : AllMeet t m zs → (on_close t m zs).left ≡ piled m (under m.pile)

-- so it is for every chart and list of rules and at every casebook: for price, sample, strike and trim where the call is
-- accepted, for close where no earlier row refuses it, which are the rows of strike
pub record AnswersMean : Type 0 where
  pub price : (t : Problem) (m : Model) (zs : List ℤ) (room : List ℕ) → Accepted (on_price t m zs room) → PriceMeans t m zs room
  pub sample : (t : Problem) (m : Model) (room : List ℕ) → Accepted (on_sample t m room) → SampleMeans t m room
  pub strike : (t : Problem) (m : Model) (zs : List ℤ) → Accepted (on_strike t m zs) → StrikeMeans t m zs
  pub trim : (t : Problem) (m : Model) → Accepted (on_trim t m) → TrimMeans t m
  pub close : (t : Problem) (m : Model) (zs : List ℤ) → strike_rows t m zs ≡ None → CloseMeans t m zs
