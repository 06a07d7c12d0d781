-- A dossier after its seal: what a form is answered and what it leaves. Assumes nothing.
use Rattle.std.specs.Prelude.{ℕ, Bool, List, length, take, replicate, ℤ, Ok, Err, Option}
use Rattle.terms.specs.declared.refusal.Refusal.TheVariants.{NotHere, RouteRange}
use Rattle.terms.specs.Refusals.{when, Outcome, decided}
use Rattle.rules.specs.Lawful.{Problem}
use Rattle.judging.specs.Cases.{Model}
use Rattle.judging.specs.Calls.{Lent, on_claim, on_price, on_sample, on_strike, on_trim, on_split, on_close, on_offer, verdict_of}
use Rattle.lines.specs.Forms.{Form, Casebook, Places, Arc, Once, Order, Budget, Seal, Claim, Price, Sample, Strike, Trim, Split, Close, Offer, Verdict}
use Rattle.std.specs.List.{list_any}
use Rattle.unsealed.specs.Items.{no_route, set_of}
use Rattle.dossiers.specs.Tolds.{Told, Word, count_told, amount_told, plan_told}
use Rattle.dossiers.specs.Namings.{named, naming_rows}

-- a buffer for a plan, long enough for every chart
abbrev pub buffer : List ℕ
buffer = replicate 32 0

-- what a call answers, told to a line
abbrev pub counting : Outcome Model ℕ → Outcome Model Told
counting o = record { answer = count_told o.answer; left = o.left }

abbrev pub pricing : Outcome Lent (Option ℤ) → Outcome Model Told
pricing o = record { answer = amount_told o.answer; left = o.left.model }

abbrev pub sampling : ℕ → Outcome Lent Bool → Outcome Model Told
sampling n o = record { answer = plan_told (take n o.left.buffer) o.answer; left = o.left.model }

-- a call with the multipliers that a line names, one for each rule
abbrev pub naming : Problem → Model → List (ℕ × ℤ) → (List ℤ → Outcome Model Told) → Outcome Model Told
naming t m xs call = decided m (naming_rows t xs) (call (named (length t.rules) xs))

-- a form that is not allowed here
abbrev pub not_here : Model → Outcome Model Told
not_here m = record { answer = Err NotHere; left = m }

-- the forms that draft come before the seal; each other form makes its call
abbrev pub on_work : Problem → Model → Form → Outcome Model Told
on_work t m Casebook = not_here m
on_work t m (Places n) = not_here m
on_work t m (Arc x) = not_here m
on_work t m (Once qs) = not_here m
on_work t m (Order earlier later) = not_here m
on_work t m (Budget limit xs) = not_here m
on_work t m Seal = not_here m
on_work t m (Claim n) = counting (on_claim t m n)
on_work t m (Price xs) = naming t m xs (λ zs. pricing (on_price t m zs buffer))
on_work t m Sample = sampling t.places (on_sample t m buffer)
on_work t m (Strike xs) = naming t m xs (λ zs. counting (on_strike t m zs))
on_work t m Trim = counting (on_trim t m)
on_work t m (Split place qs) = decided m (when (list_any no_route qs) RouteRange) (counting (on_split t m place (set_of qs)))
on_work t m (Close xs) = naming t m xs (λ zs. counting (on_close t m zs))
on_work t m (Offer arcs) = counting (on_offer t m arcs)
on_work t m Verdict = record { answer = Ok (Word (verdict_of t m)); left = m }
