-- What the answers of price, sample, strike, trim and close mean. Assumes nothing.
use Rattle.std.proofs.Common.{◌≡◌, ℕ, zero, suc, Bool, true, false, cond, not, ◌&&◌, List, [], ◌∷◌, length, ℤ, ◌≤ℤ◌, ◌<ℤ◌, is_ok, Some, None, Ok, Err, Option, Result, sym, refl, ap, ◌∙◌, subst, inl, inr, arith}
use lib.Signed.{lt_z}
use Rattle.std.proofs.lemmas.Int.{ints}
use Rattle.std.proofs.lemmas.Bool.{and_parts, and_from, cases_Bool, true≢false, both_ways}
use Rattle.terms.specs.declared.refusal.Refusal.{Refusal}
use Rattle.terms.specs.declared.refusal.Refusal.TheVariants.{NoCase, NotClosed}
use Rattle.terms.specs.Refusals.{naming, or_else, Outcome, decided}
use Rattle.plans.specs.Cases.{Case, on, on_some, kept, gone, size}
use Rattle.plans.specs.Firsts.{foremost, amount_in, written, is_there}
use Rattle.plans.specs.Words.{Iff, Meant}
use Rattle.plans.proofs.Whole.{lt_z_true, lt_z_false, lt_lt_z}
use Rattle.plans.proofs.Members.{those_in, those_out}
use Rattle.plans.proofs.Standing.{stands_each, on_some_lem, some_on, in_stands, stands_in, cheapest_least, standing_means}
use Rattle.rules.specs.Lawful.{Problem}
use Rattle.amounts.specs.Amounts.{amount}
use Rattle.judging.specs.Cases.{Model, mark, standing_in, first_plan, top, under, none_open}
use Rattle.judging.specs.Calls.{multiplier_rows, no_case, Lent, lent, price_rows, price_done, on_price, sample_rows, sample_done, on_sample, keeping, below, cheaply, strike_rows, on_strike, trim_rows, on_trim, undercut, not_closed, close_done, on_close}
use Rattle.judging.specs.Answers.{Accepted, Working, FirstPriced, AllMeet, AllThroughMeet, SomeBelow, SomeThroughBelow, lost, PriceMeans, SampleMeans, Removes, StrikeMeans, TrimMeans, CloseMeans, AnswersMean}
use Rattle.judging.proofs.Rows.{decided_done, accepted_none, or_none, when_none}
use Rattle.judging.proofs.Uniform.{undercut_over}

-- what is known of the plans that stand in the working case
abbrev known : (t : Problem) (m : Model) (f : List ℕ → ℤ) → Meant t.places t.arcs (top m.pile) f
known t m f = standing_means t.places t.arcs (top m.pile) f

-- price and sample

abbrev price_of : (List ℕ → ℤ) → Option (List ℕ) → Result (Option ℤ) Refusal
price_of f o = Ok (amount_in f o)

price_some : (f : List ℕ → ℤ) (o : Option (List ℕ)) (z : ℤ) → price_of f o ≡ Ok (Some z) → (p : List ℕ) × ((o ≡ Some p) × (f p ≡ z))
price_some f None z e = let w : ◌≡◌ {A = ℕ} 0 1 = cc in absurd (omega arith)
price_some f (Some p) z e = let w : f p ≡ z = cc in (p, (refl, w))

price_none : (f : List ℕ → ℤ) (o : Option (List ℕ)) → price_of f o ≡ Ok None → o ≡ None
price_none f None e = refl
price_none f (Some p) e = let w : ◌≡◌ {A = ℕ} 0 1 = cc in absurd (omega arith)

price_means : (t : Problem) (m : Model) (zs : List ℤ) (room : List ℕ) → Accepted (on_price t m zs room) → PriceMeans t m zs room
price_means t m zs room h =
    let first = first_plan t zs (top m.pile) in
    let k = known t m (amount t zs) in
    let e = decided_done (lent m room) (price_rows t m zs room) (price_done t m zs room) (accepted_none (lent m room) (price_rows t m zs room) (price_done t m zs room) h) in
    let answer = ap (λ (o : Outcome Lent (Option ℤ)). o.answer) e in
    let buffer = ap (λ (o : Outcome Lent (Option ℤ)). o.left.buffer) e in
    record {
      amount = λ z. (
        (λ g. let r = price_some (amount t zs) first z (sym answer ∙ g) in (r.0, ((k.priced r.0).0 r.1.0, r.1.1))),
        (λ g. answer ∙ ap (price_of (amount t zs)) ((k.priced g.0).1 g.1.0) ∙ ap (λ (z : ℤ). Ok (Some z)) g.1.1),
      );
      plan = λ p g. buffer ∙ ap (λ (o : Option (List ℕ)). written o room) ((k.priced p).1 g);
      none = (
        (λ g. k.unpriced.0 (price_none (amount t zs) first (sym answer ∙ g))),
        (λ g. answer ∙ ap (price_of (amount t zs)) (k.unpriced.1 g)),
      );
      nothing = λ g. buffer ∙ ap (λ (o : Option (List ℕ)). written o room) (k.unpriced.1 g);
      same = ap (λ (o : Outcome Lent (Option ℤ)). o.left.model) e;
    }

abbrev sample_of : Option (List ℕ) → Result Bool Refusal
sample_of o = Ok (is_there o)

sample_some : (o : Option (List ℕ)) → sample_of o ≡ Ok true → (p : List ℕ) × (o ≡ Some p)
sample_some None e = let w : false ≡ true = cc in absurd (true≢false (sym w))
sample_some (Some p) e = (p, refl)

sample_none : (o : Option (List ℕ)) → sample_of o ≡ Ok false → o ≡ None
sample_none None e = refl
sample_none (Some p) e = let w : true ≡ false = cc in absurd (true≢false w)

sample_means : (t : Problem) (m : Model) (room : List ℕ) → Accepted (on_sample t m room) → SampleMeans t m room
sample_means t m room h =
    let first = foremost (standing_in t (top m.pile)) in
    let k = known t m (amount t []) in
    let e = decided_done (lent m room) (sample_rows t m room) (sample_done t m room) (accepted_none (lent m room) (sample_rows t m room) (sample_done t m room) h) in
    let answer = ap (λ (o : Outcome Lent Bool). o.answer) e in
    let buffer = ap (λ (o : Outcome Lent Bool). o.left.buffer) e in
    record {
      some = (
        (λ g. let r = sample_some first (sym answer ∙ g) in (r.0, (k.sampled r.0).0 r.1)),
        (λ g. answer ∙ ap sample_of ((k.sampled g.0).1 g.1)),
      );
      plan = λ p g. buffer ∙ ap (λ (o : Option (List ℕ)). written o room) ((k.sampled p).1 g);
      none = (
        (λ g. k.unsampled.0 (sample_none first (sym answer ∙ g))),
        (λ g. answer ∙ ap sample_of (k.unsampled.1 g)),
      );
      nothing = λ g. buffer ∙ ap (λ (o : Option (List ℕ)). written o room) (k.unsampled.1 g);
      same = ap (λ (o : Outcome Lent Bool). o.left.model) e;
    }

-- strike and trim

size_same : (s r : Case) (n : ℕ) → ((a : ℕ) → s a ≡ r a) → size s n ≡ size r n
size_same s r zero h = refl
size_same s r (suc n) h = let e = size_same s r n h in let f = h n in cc

gone_lost : (x y : Bool) → (x && not y) ≡ (x && not (x && y))
gone_lost true y = refl
gone_lost false y = refl

open_length : (cs : List Case) → none_open cs ≡ false → suc (length (under cs)) ≡ length cs
open_length [] h = absurd (true≢false h)
open_length (s ∷ rest) h = refl

abbrev count_of : ℕ → Result ℕ Refusal
count_of n = Ok n

-- what is kept of the working case: how many arcs go, and all else
keeping_removes : (t : Problem) (m : Model) (ps : List (List ℕ)) → none_open m.pile ≡ false → Removes t m (keeping t m ps)
keeping_removes t m ps o =
    let s = top m.pile in
    record {
      count = ap count_of (size_same (gone ps s) (lost s (kept ps s)) (length t.arcs) (λ a. gone_lost (s a) (on_some ps a)));
      cases = open_length m.pile o;
      others = refl;
      claim = refl;
      held = refl;
    }

-- whether an arc stands after a call that is done
abbrev stands_after : Outcome Model ℕ → ℕ → Bool
stands_after o a = top o.left.pile a

-- strikes

not_less : (x y : ℤ) → (x <ℤ y → ⊥) → y ≤ℤ x
not_less x y h = elim (cases_Bool (lt_z x y)) [ inl e ↦ absurd (h (lt_z_true x y e)) | inr e ↦ lt_z_false x y e ]

too_low : (x y : ℤ) → x <ℤ y → y ≤ℤ x → ⊥
too_low x y h k = omega (arith, ints)

module _ (t : Problem) (m : Model) (zs : List ℤ) where
  abbrev s : Case
  s = top m.pile

  strike_kept : (a : ℕ) → Iff (kept (cheaply t m zs) s a ≡ true) (SomeThroughBelow t m zs a)
  strike_kept a = (
    (λ h.
        let r = some_on a (cheaply t m zs) (and_parts (s a) _ h).1 in
        let i = those_out (below t zs m.claimed) r.0 (standing_in t s) r.1.0 in
        (r.0, (in_stands t.places t.arcs s r.0 i.1, (r.1.1, lt_z_true (amount t zs r.0) (mark m.claimed) i.0)))),
    (λ h.
        and_from (s a) _ (stands_each s h.0 a h.1.0.all h.1.1.0)
        (on_some_lem h.0 a (cheaply t m zs)
        (those_in (below t zs m.claimed) h.0 (standing_in t s) (lt_lt_z (amount t zs h.0) (mark m.claimed) h.1.1.1) (stands_in t.places t.arcs s h.0 h.1.0))
        h.1.1.0)),
  )

  strike_open : strike_rows t m zs ≡ None → none_open m.pile ≡ false
  strike_open e = when_none (none_open m.pile) NoCase (or_none (no_case m) None (or_none (multiplier_rows t zs) _ e).1).0

  strike_removed : (a : ℕ) (b : Bool) → Iff (b ≡ true) (SomeThroughBelow t m zs a) → Iff (b ≡ false) (AllThroughMeet t m zs a)
  strike_removed a b i = (
    (λ h p w g. not_less (amount t zs p) (mark m.claimed) (λ l. both_ways b h (i.1 (p, (w, (g, l)))))),
    (λ h. elim (cases_Bool b) [
      | inl e ↦ let r = i.0 e in absurd (too_low (amount t zs r.0) (mark m.claimed) r.1.1.1 (h r.0 r.1.0 r.1.1.0))
      | inr e ↦ e
    ]),
  )

  strike_means : Accepted (on_strike t m zs) → StrikeMeans t m zs
  strike_means h =
      let rows = accepted_none m (strike_rows t m zs) (keeping t m (cheaply t m zs)) h in
      let e = decided_done m (strike_rows t m zs) (keeping t m (cheaply t m zs)) rows in
      let remains : (a : ℕ) → Iff (stands_after (on_strike t m zs) a ≡ true) (SomeThroughBelow t m zs a) = λ a. subst (λ o. Iff (stands_after o a ≡ true) (SomeThroughBelow t m zs a)) (sym e) (strike_kept a) in
      record {
        removed = λ a _. strike_removed a (stands_after (on_strike t m zs) a) (remains a);
        remains = remains;
        rest = subst (Removes t m) (sym e) (keeping_removes t m (cheaply t m zs) (strike_open rows));
      }

module _ (t : Problem) (m : Model) where
  abbrev w : Case
  w = top m.pile

  -- an arc on a standing plan
  abbrev OnPlan : ℕ → Type 0
  OnPlan a = (p : List ℕ) × (Working t m p × (on a p ≡ true))

  trim_kept : (a : ℕ) → Iff (kept (standing_in t w) w a ≡ true) (OnPlan a)
  trim_kept a = (
    (λ h. let r = some_on a (standing_in t w) (and_parts (w a) _ h).1 in (r.0, (in_stands t.places t.arcs w r.0 r.1.0, r.1.1))),
    (λ h. and_from (w a) _ (stands_each w h.0 a h.1.0.all h.1.1) (on_some_lem h.0 a (standing_in t w) (stands_in t.places t.arcs w h.0 h.1.0) h.1.1)),
  )

  trim_removed : (a : ℕ) (b : Bool) → Iff (b ≡ true) (OnPlan a) → Iff (b ≡ false) ((p : List ℕ) → Working t m p → on a p ≡ true → ⊥)
  trim_removed a b i = (
    (λ h p x g. both_ways b h (i.1 (p, (x, g)))),
    (λ h. elim (cases_Bool b) [
      | inl e ↦ let r = i.0 e in absurd (h r.0 r.1.0 r.1.1)
      | inr e ↦ e
    ]),
  )

  trim_means : Accepted (on_trim t m) → TrimMeans t m
  trim_means h =
      let rows = accepted_none m (trim_rows m) (keeping t m (standing_in t w)) h in
      let e = decided_done m (trim_rows m) (keeping t m (standing_in t w)) rows in
      let remains : (a : ℕ) → Iff (stands_after (on_trim t m) a ≡ true) (OnPlan a) = λ a. subst (λ o. Iff (stands_after o a ≡ true) (OnPlan a)) (sym e) (trim_kept a) in
      record {
        removed = λ a _. trim_removed a (stands_after (on_trim t m) a) (remains a);
        remains = remains;
        rest = subst (Removes t m) (sym e) (keeping_removes t m (standing_in t w) (when_none (none_open m.pile) NoCase rows));
      }

-- close

or_skip : (x y : Option Refusal) → x ≡ None → or_else x y ≡ y
or_skip None y h = refl
or_skip (Some e) y h = let z : ◌≡◌ {A = ℕ} 0 1 = cc in absurd (omega arith)

or_last : (x : Option Refusal) → or_else x None ≡ x
or_last None = refl
or_last (Some e) = refl

chain : (x y z : ℤ) → x ≤ℤ y → y ≤ℤ z → x ≤ℤ z
chain x y z h k = omega (arith, ints)

lower : (x y z : ℤ) → x ≤ℤ y → y <ℤ z → x <ℤ z
lower x y z h k = omega (arith, ints)

-- a close that no row before the last refuses, of a case whose first plan with the least amount is o
module _ (m : Model) (v : ℤ) (f : List ℕ → ℤ) where
  abbrev closing : Option (List ℕ) → Outcome Model ℕ
  closing o = decided m (naming NotClosed (undercut v (amount_in f o))) (close_done m)

  abbrev stayed : ℤ → Outcome Model ℕ
  stayed z = record { answer = Err (NotClosed z); left = m }

  refused_by : (o : Option (List ℕ)) (z : ℤ) → (closing o).answer ≡ Err (NotClosed z) → (p : List ℕ) × ((o ≡ Some p) × ((f p ≡ z) × (f p <ℤ v)))
  refused_by None z e = let q : ◌≡◌ {A = ℕ} 0 1 = cc in absurd (omega arith)
  refused_by (Some p) z e = by (lt_z (f p) v) refl e
    where
      by : (b : Bool) → lt_z (f p) v ≡ b → (decided m (naming NotClosed (cond b (Some (f p)) None)) (close_done m)).answer ≡ Err (NotClosed z) → (q : List ℕ) × ((Some p ≡ Some q) × ((f q ≡ z) × (f q <ℤ v)))
      by true l g = let x : f p ≡ z = cc in (p, (refl, (x, lt_z_true (f p) v l)))
      by false l g = let q : ◌≡◌ {A = ℕ} 0 1 = cc in absurd (omega arith)

  refuses : (o : Option (List ℕ)) (p : List ℕ) → o ≡ Some p → f p <ℤ v → closing o ≡ stayed (f p)
  refuses o p e l =
      ap closing e ∙ ap (λ (b : Bool). decided m (naming NotClosed (cond b (Some (f p)) None)) (close_done m)) (lt_lt_z (f p) v l)

  closes : (o : Option (List ℕ)) → ((p : List ℕ) → o ≡ Some p → v ≤ℤ f p) → closing o ≡ close_done m
  closes o h = ap (λ (x : Option ℤ). decided m (naming NotClosed x) (close_done m)) (undercut_over v f o h)

  closed_by : (o : Option (List ℕ)) → is_ok (closing o).answer ≡ true → (p : List ℕ) → o ≡ Some p → v ≤ℤ f p
  closed_by o h p e = not_less (f p) v (λ l. true≢false (sym h ∙ ap (λ (x : Outcome Model ℕ). is_ok x.answer) (refuses o p e l)))

module _ (t : Problem) (m : Model) (zs : List ℤ) (rows : strike_rows t m zs ≡ None) where
  abbrev first : Option (List ℕ)
  first = first_plan t zs (top m.pile)

  is_closing : on_close t m zs ≡ closing m (mark m.claimed) (amount t zs) first
  is_closing =
      let r = or_none (multiplier_rows t zs) _ rows in
      let o = or_none (no_case m) None r.1 in
      ap (λ (x : Option Refusal). decided m x (close_done m))
      (or_skip (multiplier_rows t zs) _ r.0 ∙ or_skip (no_case m) _ o.0 ∙ or_last (not_closed t m zs))

  -- a standing plan is priced at the least amount or above
  at_least : (q : List ℕ) → Working t m q → (p : List ℕ) × ((first ≡ Some p) × (amount t zs p ≤ℤ amount t zs q))
  at_least q w = cheapest_least (amount t zs) q (standing_in t (top m.pile)) (stands_in t.places t.arcs (top m.pile) q w)

  first_is : (p : List ℕ) → first ≡ Some p → FirstPriced t m zs p
  first_is p e = ((known t m (amount t zs)).priced p).0 e

  least_below : SomeBelow t m zs → (p : List ℕ) × ((first ≡ Some p) × (amount t zs p <ℤ mark m.claimed))
  least_below h =
      let r = at_least h.0 h.1.0 in
      (r.0, (r.1.0, lower (amount t zs r.0) (amount t zs h.0) (mark m.claimed) r.1.1 h.1.1))

  first_meets : AllMeet t m zs → (p : List ℕ) → first ≡ Some p → mark m.claimed ≤ℤ amount t zs p
  first_meets h p e = h p (first_is p e).stands

  close_means : CloseMeans t m zs
  close_means =
      let v = mark m.claimed in
      let f = amount t zs in
      let answer = ap (λ (o : Outcome Model ℕ). o.answer) is_closing in
      record {
        refused = (
          (λ h. let r = refused_by m v f first h.0 (sym answer ∙ h.1) in (r.0, ((first_is r.0 r.1.0).stands, r.1.1.1))),
          (λ h.
              let r = least_below h in
              (f r.0, ap (λ (o : Outcome Model ℕ). o.answer) (is_closing ∙ refuses m v f first r.0 r.1.0 r.1.1))),
        );
        beside = λ z h. let r = refused_by m v f first z (sym answer ∙ h) in (r.0, (first_is r.0 r.1.0, r.1.1.0));
        stays = λ h. let r = least_below h in ap (λ (o : Outcome Model ℕ). o.left) (is_closing ∙ refuses m v f first r.0 r.1.0 r.1.1);
        accepted = (
          (λ h q w.
              let r = at_least q w in
              chain v (f r.0) (f q) (closed_by m v f first (subst (λ o. is_ok o.answer ≡ true) is_closing h) r.0 r.1.0) r.1.1),
          (λ h. ap (λ (o : Outcome Model ℕ). is_ok o.answer) (is_closing ∙ closes m v f first (first_meets h))),
        );
        answer = λ h. ap (λ (o : Outcome Model ℕ). o.answer) (is_closing ∙ closes m v f first (first_meets h));
        closed = λ h. ap (λ (o : Outcome Model ℕ). o.left) (is_closing ∙ closes m v f first (first_meets h));
      }

pub answers_mean : AnswersMean
answers_mean = record { price = price_means; sample = sample_means; strike = strike_means; trim = trim_means; close = close_means }
