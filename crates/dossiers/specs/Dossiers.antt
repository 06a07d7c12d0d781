-- A whole dossier, from its first line on, and what its verdict means. Assumes nothing.
use Rattle.std.specs.Prelude.{◌≡◌, ℕ, List, [], ◌∷◌, length, Ok, Err, Result}
use Rattle.terms.specs.declared.refusal.Refusal.{Refusal}
use Rattle.terms.specs.Refusals.{Outcome}
use Rattle.rules.specs.declared.bank.Bank.{Ghosts}
use Rattle.rules.specs.Lawful.{Problem}
use Rattle.judging.specs.Cases.{Model, opened}
use Rattle.judging.specs.Calls.{Call, run, verdict_of}
use Rattle.judging.specs.Theorem.{Posed, Recalled, Meant}
use Rattle.casebooks.specs.declared.casebook.Casebook.{Casebook}
use Rattle.casebooks.specs.Views.{problem_in, model_in}
use Rattle.lines.specs.Forms.{Form, Verdict}
use Rattle.unsealed.specs.declared.drafting.Step.{Step}
use Rattle.unsealed.specs.declared.drafting.Step.TheVariants.{Counts, Seals}
use Rattle.unsealed.specs.Stages.{Drafted, new_drafted, posed, on_form}
use Rattle.unsealed.specs.Replies.{Replies}
use Rattle.dossiers.specs.Tolds.{Told, Count, Word}
use Rattle.dossiers.specs.Works.{on_work}

-- how far a dossier has come: what is drafted so far; or, after the seal, the problem that was drafted and the casebook on it
pub data Stage : Type 0 where
  Drafts : Drafted → Stage
  Works : Problem → Model → Stage

-- a casebook in the place of a dossier after the seal
abbrev pub stage_of : {B : Type 0} → (bank : Ghosts B) → Casebook B bank → Stage
stage_of bank k = Works (problem_in bank k) (model_in k)

-- a dossier of which nothing was read
abbrev pub unread : Stage
unread = Drafts new_drafted

-- what a line of a draft is told, and how far the dossier has come then: the seal answers the number of arcs, and opens a
-- casebook on the chart and the rules that were drafted
abbrev pub draft_told : Drafted → Result Step Refusal → Result Told Refusal
draft_told d (Ok (Counts n)) = Ok (Count n)
draft_told d (Ok Seals) = Ok (Count (length d.layout.arcs))
draft_told d (Err e) = Err e

abbrev pub draft_left : Drafted → Result Step Refusal → Stage
draft_left d (Ok (Counts n)) = Drafts d
draft_left d (Ok Seals) = Works (posed d) (opened (posed d))
draft_left d (Err e) = Drafts d

abbrev pub drafting : Outcome Drafted Step → Outcome Stage Told
drafting o = record { answer = draft_told o.left o.answer; left = draft_left o.left o.answer }

abbrev pub working : Problem → Outcome Model Told → Outcome Stage Told
working t o = record { answer = o.answer; left = Works t o.left }

-- what a form is told, and how far the dossier has come then
abbrev pub on_stage : Stage → Form → Outcome Stage Told
on_stage (Drafts d) f = drafting (on_form d f)
on_stage (Works t m) f = working t (on_work t m f)

-- the lines, one after another, each with its answer, lead a dossier from s to u
abbrev pub Leads : List (List ℕ) → Stage → Stage → Type 0
Leads [] s u = s ≡ u
Leads (l ∷ ls) s u = (r : Result Told Refusal) × (v : Stage) × (Replies (on_stage s) s l r v × Leads ls v u)

-- what the verdict of a dossier means that has come to m on the problem t: the problem is a sealed chart with rules in range; some
-- calls led the casebook to m, and its claim and its plan held are those accepted last among them; the line (verdict) is told
-- the casebook's verdict, which means what every verdict means
pub record Judged (t : Problem) (m : Model) : Type 0 where
  pub posed : Posed t
  pub calls : List Call
  pub ran : m ≡ run t calls (opened t)
  pub recalled : Recalled t calls
  pub told : (on_work t m Verdict).answer ≡ Ok (Word (verdict_of t m))
  pub meant : Meant t m

-- so it is for every dossier: whatever lines came, damaged and refused ones among them
abbrev pub DossierMeans : Type 0
DossierMeans = (ls : List (List ℕ)) (t : Problem) (m : Model) → Leads ls unread (Works t m) → Judged t m
