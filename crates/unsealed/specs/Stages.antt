-- A dossier before its seal: which form is allowed, what it is answered and what it leaves. Assumes nothing.
use Rattle.std.specs.Prelude.{ℕ, Bool, true, false, cond, not, ◌&&◌, ◌||◌, [], ◌∷◌, is_some, Ok, Err, Option, Result, nat_le}
use Rattle.terms.specs.declared.refusal.Refusal.{Refusal}
use Rattle.terms.specs.declared.refusal.Refusal.TheVariants.{NotHere, PlacesRange, PlacesLate}
use Rattle.terms.specs.Refusals.{when, earliest, Outcome, decided}
use Rattle.charts.specs.Drafts.{Layout, draft_of, new_draft, none_of, on_arc}
use Rattle.rules.specs.Lawful.{Problem}
use Rattle.lines.specs.Forms.{Form, Casebook, Places, Arc, Once, Order, Budget, Seal, Claim, Price, Sample, Strike, Trim, Split, Close, Offer, Verdict}
use Rattle.unsealed.specs.declared.drafting.Drafting.{Drafting}
use Rattle.unsealed.specs.declared.drafting.Step.{Step}
use Rattle.unsealed.specs.declared.drafting.Step.TheVariants.{Counts, Seals}
use Rattle.unsealed.specs.Books.{Book, new_book, book_of, rules_of, on_once, on_order, on_budget}

-- whether the header was accepted, the chart drafted so far, and the rules drafted so far
pub record Drafted : Type 0 where
  pub begun : Bool
  pub layout : Layout
  pub book : Book

-- a dossier of which nothing was read
abbrev pub new_drafted : Drafted
new_drafted = record { begun = false; layout = new_draft; book = new_book }

abbrev pub drafted_of : Drafting → Drafted
drafted_of d = record { begun = d.begun; layout = draft_of d.draft; book = book_of d.book }

-- an answer that counts
abbrev pub counted : Result ℕ Refusal → Result Step Refusal
counted (Ok n) = Ok (Counts n)
counted (Err e) = Err e

-- what a form does to the chart alone, and to the rules alone
abbrev pub of_layout : Drafted → Outcome Layout ℕ → Outcome Drafted Step
of_layout d o = record { answer = counted o.answer; left = record { begun = d.begun; layout = o.left; book = d.book } }

abbrev pub of_book : Drafted → Outcome Book ℕ → Outcome Drafted Step
of_book d o = record { answer = counted o.answer; left = record { begun = d.begun; layout = d.layout; book = o.left } }

-- a form that is not allowed here
abbrev pub not_here : Drafted → Outcome Drafted Step
not_here d = record { answer = Err NotHere; left = d }

-- PLACES sets the number of places, before any arc and before a budget, and answers it
abbrev pub places_rows : Drafted → ℕ → Option Refusal
places_rows d n = earliest (
    when (not (nat_le 1 n && nat_le n 32)) PlacesRange
    ∷ (when (not (none_of d.layout.arcs) || is_some d.book.limit) PlacesLate
    ∷ []))

abbrev pub on_places : Drafted → ℕ → Outcome Drafted Step
on_places d n = decided d (places_rows d n) (record {
  answer = Ok (Counts n);
  left = record { begun = d.begun; layout = record { places = n; arcs = d.layout.arcs }; book = d.book };
})

-- SEAL ends this stage: the draft is moved into a sealed chart
abbrev pub on_seal : Drafted → Outcome Drafted Step
on_seal d = record { answer = Ok Seals; left = d }

-- a form of a dossier that was begun. The forms that work on a casebook come after the seal, and the header is not
-- repeated.
abbrev pub on_begun : Drafted → Form → Outcome Drafted Step
on_begun d Casebook = not_here d
on_begun d (Places n) = on_places d n
on_begun d (Arc x) = of_layout d (on_arc d.layout x)
on_begun d (Once qs) = of_book d (on_once d.book qs)
on_begun d (Order earlier later) = of_book d (on_order d.book earlier later)
on_begun d (Budget limit xs) = of_book d (on_budget d.book d.layout.places limit xs)
on_begun d Seal = on_seal d
on_begun d (Claim n) = not_here d
on_begun d (Price xs) = not_here d
on_begun d Sample = not_here d
on_begun d (Strike xs) = not_here d
on_begun d Trim = not_here d
on_begun d (Split place qs) = not_here d
on_begun d (Close xs) = not_here d
on_begun d (Offer arcs) = not_here d
on_begun d Verdict = not_here d

-- a form of a dossier that was not begun: only the header is allowed, and it begins the dossier
abbrev pub on_unbegun : Drafted → Form → Outcome Drafted Step
on_unbegun d Casebook = record { answer = Ok (Counts 0); left = record { begun = true; layout = d.layout; book = d.book } }
on_unbegun d (Places n) = not_here d
on_unbegun d (Arc x) = not_here d
on_unbegun d (Once qs) = not_here d
on_unbegun d (Order earlier later) = not_here d
on_unbegun d (Budget limit xs) = not_here d
on_unbegun d Seal = not_here d
on_unbegun d (Claim n) = not_here d
on_unbegun d (Price xs) = not_here d
on_unbegun d Sample = not_here d
on_unbegun d (Strike xs) = not_here d
on_unbegun d Trim = not_here d
on_unbegun d (Split place qs) = not_here d
on_unbegun d (Close xs) = not_here d
on_unbegun d (Offer arcs) = not_here d
on_unbegun d Verdict = not_here d

-- what a form is answered, and what it leaves
abbrev pub on_form : Drafted → Form → Outcome Drafted Step
on_form d f = cond d.begun (on_begun d f) (on_unbegun d f)

-- the problem that a dossier poses when it is sealed: its chart and its rules
abbrev pub posed : Drafted → Problem
posed d = record { places = d.layout.places; arcs = d.layout.arcs; rules = rules_of d.book }
