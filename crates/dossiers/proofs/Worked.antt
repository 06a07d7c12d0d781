-- What a form is answered after the seal, from what its call answers. Assumes nothing.
use Rattle.std.proofs.Common.{◌≡◌, ℕ, ◌≤◌, Bool, ltb, List, length, take, ℤ, Some, None, Ok, Err, Option, Result, sym, ap, ◌∙◌, inl, inr, arith, length-take}
use Rattle.std.proofs.lemmas.List.{take_all}
use Rattle.std.proofs.lemmas.Bool.{cases_Bool, cases_lt, ne_eqb}
use Rattle.terms.specs.declared.refusal.Refusal.{Refusal}
use Rattle.terms.specs.declared.refusal.Refusal.TheVariants.{RouteRange, OfferLength}
use Rattle.terms.specs.declared.routes.RouteSet.{RouteSet}
use Rattle.terms.specs.Refusals.{when, or_else, Outcome, decided}
use Rattle.rules.specs.Rules.{counted}
use Rattle.rules.specs.Lawful.{Problem}
use Rattle.judging.specs.Cases.{Model}
use Rattle.judging.specs.Calls.{on_split, on_offer, too_many_rules}
use Rattle.lines.specs.Forms.{Split, Offer}
use Rattle.std.specs.List.{list_any}
use Rattle.unsealed.specs.Items.{no_route, set_of, as_set, routes_read}
use Rattle.arrayvec.specs.ArrayVec.{ArrayVec}
use Rattle.dossiers.specs.Tolds.{Told, count_told}
use Rattle.dossiers.specs.Namings.{named, naming_causes, ReadAs}
use Rattle.dossiers.specs.Works.{naming, counting, on_work}
use Rattle.dossiers.proofs.Namings.{capped_causes, few_rules}

-- a line is told r, and m is left, as an outcome has it
pub record Made (o : Outcome Model Told) (r : Result Told Refusal) (m : Model) : Type 0 where
  pub reply : r ≡ o.answer
  pub left : m ≡ o.left

-- one outcome for another
made_by : {o p : Outcome Model Told} {r : Result Told Refusal} {m : Model} → o ≡ p → Made o r m → Made p r m
made_by e d = record { reply = d.reply ∙ ap (λ (q : Outcome Model Told). q.answer) e; left = d.left ∙ ap (λ (q : Outcome Model Told). q.left) e }

-- where multipliers were read for as many rules as the bank counts, the call is made with them
pub with_named : (t : Problem) (m : Model) (xs : List (ℕ × ℤ)) (n : ℕ) (read : ArrayVec ℤ) (zs : List ℤ) (call : List ℤ → Outcome Model Told) {r : Result Told Refusal} {left : Model}
    → n ≡ counted t.rules → ReadAs n xs (Ok read) → zs ≡ read.items → Made (call zs) r left → Made (naming t m xs call) r left
with_named t m xs n read zs call c (none, e) f d =
    let k : ℕ = length t.rules in
    let z : naming_causes k xs ≡ None = sym (capped_causes k xs) ∙ ap (λ (j : ℕ). naming_causes j xs) (sym c) ∙ none in
    let same : n ≡ k = c ∙ few_rules k xs z in
    let whole : call zs ≡ naming t m xs call =
    ap call (f ∙ e ∙ ap (λ (j : ℕ). named j xs) same) ∙ ap (λ (o : Option Refusal). decided m o (call (named k xs))) (sym z) in
    made_by whole d

-- where routes were read, the split is made with their set
pub with_routes : (t : Problem) (m : Model) (place : ℕ) (qs : List ℕ) (s : RouteSet) {r : Result ℕ Refusal} {told : Result Told Refusal} {left : Model}
    → Ok s ≡ routes_read qs → told ≡ count_told r → r ≡ (on_split t m place s.bits).answer → left ≡ (on_split t m place s.bits).left → Made (on_work t m (Split place qs)) told left
with_routes t m place qs s e f a l =
    elim (cases_Bool (list_any no_route qs)) [
      | inl b ↦ absurd (never (rw b at e))
      | inr b ↦
          let same : s ≡ as_set (set_of qs) = let d = rw b at e in cc in
          let whole : counting (on_split t m place s.bits) ≡ on_work t m (Split place qs) =
          ap (λ (u : RouteSet). counting (on_split t m place u.bits)) same ∙ ap (λ (v : Bool). decided m (when v RouteRange) (counting (on_split t m place (set_of qs)))) (sym b) in
          made_by whole (record { reply = f ∙ ap count_told a; left = l })
    ]
  where
    never : ◌≡◌ {A = Result RouteSet Refusal} (Ok s) (Err RouteRange) → ⊥
    never p = let z : ◌≡◌ {A = ℕ} 0 1 = cc in omega arith

-- an offer of another length than the chart has places is refused for its length, unless the bank has too many rules
wrong_length_lem : (t : Problem) (m : Model) (p : List ℕ) → (length p ≡ t.places → ⊥) → on_offer t m p ≡ decided m (or_else (too_many_rules t) (Some OfferLength)) (record { answer = Ok 0; left = m })
wrong_length_lem t m p ne =
    elim (cases_Bool (ltb 128 (length t.rules))) [
      | inl h ↦ rw h
      | inr h ↦ rw (h, ne_eqb (length p) t.places ne)
    ]

-- so it is the same for the first 33 arcs, which are more than a chart has places
pub first_arcs : (t : Problem) (m : Model) (arcs : List ℕ) → t.places ≤ 32 → on_offer t m (take 33 arcs) ≡ on_offer t m arcs
first_arcs t m arcs few =
    elim (cases_lt 33 (length arcs)) [
      | inl h ↦
          wrong_length_lem t m (take 33 arcs) (λ e. omega (arith, length-take 33 arcs, few, e)) ∙ sym (wrong_length_lem t m arcs (λ e. omega (arith, few, e)))
      | inr h ↦ ap (λ (p : List ℕ). on_offer t m p) (take_all 33 arcs h)
    ]

-- where the first arcs of an offer were read, it is judged by them
pub with_arcs : (t : Problem) (m : Model) (arcs read : List ℕ) (n : ℕ) {r : Result ℕ Refusal} {told : Result Told Refusal} {left : Model}
    → n ≡ t.places → n ≤ 32 → read ≡ take 33 arcs → told ≡ count_told r → r ≡ (on_offer t m read).answer → left ≡ (on_offer t m read).left → Made (on_work t m (Offer arcs)) told left
with_arcs t m arcs read n k few e f a l =
    let whole : counting (on_offer t m read) ≡ counting (on_offer t m arcs) = ap counting (ap (λ (p : List ℕ). on_offer t m p) e ∙ first_arcs t m arcs (omega (arith, k, few))) in
    made_by whole (record { reply = f ∙ ap count_told a; left = l })
