-- The refusals: the number and the value beside each, and how the earliest row that holds is found. Assumes nothing.
use Rattle.std.specs.Prelude.{ℕ, Bool, true, false, List, [], ◌∷◌, ◌++◌, ℤ, pos, Some, None, Err, Option, Result}
use Rattle.std.specs.Fmt.{decimal, signed_decimal}
use Rattle.terms.specs.declared.refusal.Refusal.{Refusal}
use Rattle.terms.specs.declared.refusal.Refusal.TheVariants.{Grammar, NotHere, PlacesRange, PlacesLate, PlaceRange, NodeRange, RouteRange, MinutesRange, ArcsFull, ClaimRange, TooManyRules, MultiplierCount, MultiplierRange, NoCase, SplitPlace, OneSided, PileFull, ShortBuffer, OfferLength, NotConnected, BreaksRule, NotCheaper, NotClosed}

-- the number of a refusal, and the value beside it
abbrev pub number_of : Refusal → ℕ × ℤ
number_of (Grammar byte) = (1, pos byte)
number_of NotHere = (2, pos 0)
number_of PlacesRange = (3, pos 0)
number_of PlacesLate = (4, pos 0)
number_of PlaceRange = (5, pos 0)
number_of NodeRange = (6, pos 0)
number_of RouteRange = (7, pos 0)
number_of MinutesRange = (8, pos 0)
number_of ArcsFull = (9, pos 0)
number_of ClaimRange = (10, pos 0)
number_of TooManyRules = (11, pos 0)
number_of MultiplierCount = (12, pos 0)
number_of (MultiplierRange rule) = (13, pos rule)
number_of NoCase = (14, pos 0)
number_of SplitPlace = (15, pos 0)
number_of OneSided = (16, pos 0)
number_of PileFull = (17, pos 0)
number_of ShortBuffer = (18, pos 0)
number_of OfferLength = (19, pos 0)
number_of (NotConnected place) = (20, pos place)
number_of (BreaksRule rule) = (21, pos rule)
number_of NotCheaper = (22, pos 0)
number_of (NotClosed amount) = (23, amount)

-- how a refusal is reported: its number, a blank and the value beside it
abbrev pub reported : Refusal → List ℕ
reported e = decimal (number_of e).0 ++ (32 ∷ signed_decimal (number_of e).1)

-- a row of the table of refusals: the refusal where its cause holds
abbrev pub when : Bool → Refusal → Option Refusal
when true e = Some e
when false e = None

-- a row that names a value, where there is one to name
abbrev pub naming : {V : Type 0} → (V → Refusal) → Option V → Option Refusal
naming e None = None
naming e (Some v) = Some (e v)

abbrev pub or_else : Option Refusal → Option Refusal → Option Refusal
or_else None e = e
or_else (Some d) e = Some d

-- the earliest row that holds
abbrev pub earliest : List (Option Refusal) → Option Refusal
earliest [] = None
earliest (row ∷ rows) = or_else row (earliest rows)

-- what a call answers, and what it leaves
pub record Outcome (S A : Type 0) : Type 0 where
  pub answer : Result A Refusal
  pub left : S

-- a refused call leaves all as it was
abbrev pub decided : {S A : Type 0} → S → Option Refusal → Outcome S A → Outcome S A
decided s None done = done
decided s (Some e) done = record { answer = Err e; left = s }
