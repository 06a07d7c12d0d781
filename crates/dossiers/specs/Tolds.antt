-- What an accepted line is told. Assumes nothing.
use Rattle.std.specs.Prelude.{ℕ, Bool, true, false, List, take, ℤ, Some, None, Ok, Err, codes, decimal, Option, Result}
use Rattle.std.specs.Fmt.{signed_decimal}
use Rattle.terms.specs.declared.refusal.Refusal.{Refusal}
use Rattle.terms.specs.declared.verdict.Verdict.{Verdict}
use Rattle.terms.specs.Verdicts.{word_of}
use Rattle.lines.specs.Forms.{spaced}
use Rattle.dossiers.specs.declared.answer.Answer.{Answer}
use Rattle.dossiers.specs.declared.answer.Answer.TheVariants as answer

-- a number of places, arcs, rules, cases or minutes, or an arc's number; a priced amount; that no plan stands; a plan by its
-- arcs; a verdict
pub data Told : Type 0 where
  Count : ℕ → Told
  Amount : ℤ → Told
  NoPlan : Told
  Plan : List ℕ → Told
  Word : Verdict → Told

-- how it is written: the arcs of a plan with blanks between
abbrev pub written : Told → List ℕ
written (Count n) = decimal n
written (Amount z) = signed_decimal z
written NoPlan = codes "none"
written (Plan arcs) = spaced arcs
written (Word v) = word_of v

-- an answer as the library gives it: a plan is in the first places of an array
abbrev pub told_by : Answer → Told
told_by (answer.Count n) = Count n
told_by (answer.Amount z) = Amount z
told_by answer.NoPlan = NoPlan
told_by (answer.Plan p) = Plan (take p.places p.at)
told_by (answer.Word v) = Word v

-- the answer to a line, refused or not
abbrev pub replied_by : Result Answer Refusal → Result Told Refusal
replied_by (Ok a) = Ok (told_by a)
replied_by (Err e) = Err e

-- what a call answers, told to a line: a count, an amount if a plan stands, and a plan if one stands
abbrev pub count_told : Result ℕ Refusal → Result Told Refusal
count_told (Ok n) = Ok (Count n)
count_told (Err e) = Err e

abbrev pub amount_in : Option ℤ → Told
amount_in None = NoPlan
amount_in (Some z) = Amount z

abbrev pub amount_told : Result (Option ℤ) Refusal → Result Told Refusal
amount_told (Ok o) = Ok (amount_in o)
amount_told (Err e) = Err e

abbrev pub plan_in : Bool → List ℕ → Told
plan_in true p = Plan p
plan_in false p = NoPlan

abbrev pub plan_told : List ℕ → Result Bool Refusal → Result Told Refusal
plan_told p (Ok b) = Ok (plan_in b p)
plan_told p (Err e) = Err e
