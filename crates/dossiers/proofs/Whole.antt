-- What the verdict of a dossier means, from its first line on. Assumes nothing.
use Rattle.std.proofs.Common.{◌≡◌, ℕ, Bool, true, false, cond, ◌⊎◌, List, [], ◌∷◌, ◌++◌, length, ℤ, Some, None, Ok, Err, Option, Result, sym, refl, ap, ◌∙◌, subst, inl, inr}
use Rattle.std.proofs.lemmas.Bool.{cases_Bool, cases_lt}
use Rattle.terms.specs.declared.refusal.Refusal.{Refusal}
use Rattle.terms.specs.Refusals.{Outcome}
use Rattle.rules.specs.Makes.{once_rules, order_rules, budget_rules}
use Rattle.rules.specs.Rules.{InRange}
use Rattle.rules.specs.Ranges.{once_range, order_range, budget_range, join_range}
use Rattle.rules.specs.Lawful.{Problem}
use Rattle.judging.specs.Cases.{Model, opened}
use Rattle.judging.specs.Calls.{Call, claim, price, sample, strike, trim, split, close, offer, verdict, after, run, on_price, on_strike, on_close}
use Rattle.judging.specs.Theorem.{Posed, Meant}
use Rattle.judging.proofs.Finish.{run_both}
use Rattle.judging.proofs.Means.{verdict_means}
use Rattle.lines.specs.Forms.{Form, Casebook, Places, Arc, Once, Order, Budget, Seal, Claim, Price, Sample, Strike, Trim, Split, Close, Offer, Verdict}
use Rattle.std.specs.List.{list_any}
use Rattle.unsealed.specs.Items.{no_route, set_of}
use Rattle.unsealed.specs.Books.{Book, set_in, limit_in, rules_of}
use Rattle.unsealed.specs.Stages.{Drafted, counted, on_begun, on_unbegun, on_form, places_rows, on_places}
use Rattle.unsealed.specs.Replies.{Replies, ByForm, ByByte}
use Rattle.unsealed.proofs.Sealing.{InOrder, new_sealed, arc_sealed, places_sealed}
use Rattle.dossiers.specs.Tolds.{Told}
use Rattle.dossiers.specs.Namings.{named, naming_rows}
use Rattle.dossiers.specs.Works.{buffer, naming, counting, pricing, on_work}
use Rattle.dossiers.specs.Dossiers.{Stage, Drafts, Works, unread, draft_left, drafting, on_stage, Leads, DossierMeans}

-- the rules of a dossier are in range, whatever was drafted
rules_in_range : (b : Book) → InRange (rules_of b)
rules_in_range b =
    join_range (once_rules (set_in b.once)) _ (once_range (set_in b.once))
    (join_range (order_rules b.pairs) (budget_rules (limit_in b.limit) b.table) (order_range b.pairs) (budget_range (limit_in b.limit) b.table))

-- a dossier keeps this: what is drafted is a chart in range; after the seal, calls led the casebook from its opening
abbrev Kept : Stage → Type 0
Kept (Drafts d) = InOrder d.layout
Kept (Works t m) = Posed t × ((calls : List Call) × (m ≡ run t calls (opened t)))

-- a form that counts leaves a draft
counted_left : (d : Drafted) (r : Result ℕ Refusal) → InOrder d.layout → Kept (draft_left d (counted r))
counted_left d (Ok n) k = k
counted_left d (Err e) k = k

-- a form that sets the places leaves a draft
places_left : (d : Drafted) (n : ℕ) → InOrder d.layout → Kept (draft_left (on_places d n).left (on_places d n).answer)
places_left d n k = let s = places_sealed d n k in go (places_rows d n) refl s
  where
    go : (o : Option Refusal) → places_rows d n ≡ o → InOrder (on_places d n).left.layout → Kept (draft_left (on_places d n).left (on_places d n).answer)
    go None e s = rw e (rw e at s)
    go (Some r) e s = rw e (rw e at s)

-- after each form of a draft that was begun
begun_kept : (d : Drafted) (f : Form) → InOrder d.layout → Kept (drafting (on_begun d f)).left
begun_kept d Casebook k = k
begun_kept d (Places n) k = places_left d n k
begun_kept d (Arc x) k = counted_left _ _ (arc_sealed d.layout x k)
begun_kept d (Once qs) k = counted_left _ _ k
begun_kept d (Order earlier later) k = counted_left _ _ k
begun_kept d (Budget limit xs) k = counted_left _ _ k
begun_kept d Seal k = (record { chart = k; rules = rules_in_range d.book }, ([], refl))
begun_kept d (Claim n) k = k
begun_kept d (Price xs) k = k
begun_kept d Sample k = k
begun_kept d (Strike xs) k = k
begun_kept d Trim k = k
begun_kept d (Split place qs) k = k
begun_kept d (Close xs) k = k
begun_kept d (Offer arcs) k = k
begun_kept d Verdict k = k

-- and of one that was not
unbegun_kept : (d : Drafted) (f : Form) → InOrder d.layout → Kept (drafting (on_unbegun d f)).left
unbegun_kept d Casebook k = k
unbegun_kept d (Places n) k = k
unbegun_kept d (Arc x) k = k
unbegun_kept d (Once qs) k = k
unbegun_kept d (Order earlier later) k = k
unbegun_kept d (Budget limit xs) k = k
unbegun_kept d Seal k = k
unbegun_kept d (Claim n) k = k
unbegun_kept d (Price xs) k = k
unbegun_kept d Sample k = k
unbegun_kept d (Strike xs) k = k
unbegun_kept d Trim k = k
unbegun_kept d (Split place qs) k = k
unbegun_kept d (Close xs) k = k
unbegun_kept d (Offer arcs) k = k
unbegun_kept d Verdict k = k

-- so after each form of a draft
draft_kept : (d : Drafted) (f : Form) → InOrder d.layout → Kept (drafting (on_form d f)).left
draft_kept d f k = go d.begun
  where
    go : (b : Bool) → Kept (drafting (cond b (on_begun d f) (on_unbegun d f))).left
    go true = begun_kept d f k
    go false = unbegun_kept d f k

-- some calls lead from one model to another
abbrev Calls : Problem → Model → Model → Type 0
Calls t m u = (more : List Call) × (u ≡ run t more m)

-- a form with multipliers makes its call, or none where its rows refuse
naming_calls : (t : Problem) (m : Model) (xs : List (ℕ × ℤ)) (o : List ℤ → Outcome Model Told) (call : List ℤ → Call)
    → ((zs : List ℤ) → (o zs).left ≡ after t m (call zs)) → Calls t m (naming t m xs o).left
naming_calls t m xs o call same = go (naming_rows t xs) refl
  where
    go : (r : Option Refusal) → naming_rows t xs ≡ r → Calls t m (naming t m xs o).left
    go None e = (call (named (length t.rules) xs) ∷ [], rw e (same (named (length t.rules) xs)))
    go (Some r) e = ([], rw e)

-- so does a split
split_calls : (t : Problem) (m : Model) (place : ℕ) (qs : List ℕ) → Calls t m (on_work t m (Split place qs)).left
split_calls t m place qs =
    elim (cases_Bool (list_any no_route qs)) [
      | inl e ↦ ([], rw e)
      | inr e ↦ (split place (set_of qs) ∷ [], rw e)
    ]

-- each form after the seal makes calls
work_calls : (t : Problem) (m : Model) (f : Form) → Calls t m (on_work t m f).left
work_calls t m Casebook = ([], refl)
work_calls t m (Places n) = ([], refl)
work_calls t m (Arc x) = ([], refl)
work_calls t m (Once qs) = ([], refl)
work_calls t m (Order earlier later) = ([], refl)
work_calls t m (Budget limit xs) = ([], refl)
work_calls t m Seal = ([], refl)
work_calls t m (Claim n) = (claim n ∷ [], refl)
work_calls t m (Price xs) = naming_calls t m xs (λ zs. pricing (on_price t m zs buffer)) (λ zs. price zs buffer) (λ zs. refl)
work_calls t m Sample = (sample buffer ∷ [], refl)
work_calls t m (Strike xs) = naming_calls t m xs (λ zs. counting (on_strike t m zs)) strike (λ zs. refl)
work_calls t m Trim = (trim ∷ [], refl)
work_calls t m (Split place qs) = split_calls t m place qs
work_calls t m (Close xs) = naming_calls t m xs (λ zs. counting (on_close t m zs)) close (λ zs. refl)
work_calls t m (Offer arcs) = (offer arcs ∷ [], refl)
work_calls t m Verdict = (verdict ∷ [], refl)

-- more calls after calls that led from the opening
more_calls : (t : Problem) (m u : Model) → (calls : List Call) × (m ≡ run t calls (opened t)) → Calls t m u → (calls : List Call) × (u ≡ run t calls (opened t))
more_calls t m u (calls, e) (more, f) = (calls ++ more, f ∙ ap (λ (v : Model). run t more v) e ∙ sym (run_both t calls more (opened t)))

-- after each form
form_kept : (s : Stage) (f : Form) → Kept s → Kept (on_stage s f).left
form_kept (Drafts d) f k = draft_kept d f k
form_kept (Works t m) f (p, calls) = (p, more_calls t m _ calls (work_calls t m f))

-- after each line
line_kept : (s v : Stage) (l : List ℕ) (r : Result Told Refusal) → Kept s → Replies (on_stage s) s l r v → Kept v
line_kept s v l r k answered =
    elim (cases_lt 4096 (length l)) [
      | inl long ↦ subst Kept (sym (answered.long long).1) k
      | inr short ↦ go (answered.short short)
    ]
  where
    go : ByForm (on_stage s) l r v ⊎ ByByte s l r v → Kept v
    go (inl b) = subst Kept (sym b.after) (form_kept s b.form k)
    go (inr b) = subst Kept (sym b.after) k

-- after all lines
lines_kept : (ls : List (List ℕ)) (s u : Stage) → Kept s → Leads ls s u → Kept u
lines_kept [] s u k e = subst Kept e k
lines_kept (l ∷ ls) s u k (r, v, (answered, leads)) = lines_kept ls v u (line_kept s v l r k answered) leads

-- so the verdict means what it says
pub dossier_means : DossierMeans
dossier_means ls t m leads =
    let k = lines_kept ls unread (Works t m) new_sealed leads in
    let calls = k.1.0 in
    let means = verdict_means t k.0 calls in
    record {
      posed = k.0;
      calls = calls;
      ran = k.1.1;
      recalled = means.0;
      told = refl;
      meant = subst (Meant t) (sym k.1.1) means.1;
    }
