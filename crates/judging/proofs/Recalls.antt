-- The claim is the one accepted last, and the plan held that of the offer accepted last. Assumes nothing.
use Rattle.std.proofs.Common.{◌≡◌, cond, List, [], ◌∷◌, is_ok, Some, None, Option, refl, ap, ◌∙◌}
use Rattle.terms.specs.declared.refusal.Refusal.{Refusal}
use Rattle.terms.specs.Refusals.{decided}
use Rattle.rules.specs.Lawful.{Problem}
use Rattle.judging.specs.Cases.{Model, opened, standing_in, top}
use Rattle.judging.specs.Calls.{lent, claim_rows, claim_done, price_rows, price_done, sample_rows, sample_done, keeping, cheaply, strike_rows, trim_rows, split_rows, split_done, close_rows, close_done, offer_rows, offer_done, Call, claim, price, sample, strike, trim, split, close, offer, verdict, after, run}
use Rattle.judging.specs.Theorem.{claim_by, offer_by, last_claim, last_offer, Recalled}
use Rattle.judging.proofs.Rows.{decided_both}

module _ (t : Problem) (m : Model) where
  abbrev SameClaim : Model → Type 0
  SameClaim x = x.claimed ≡ m.claimed

  abbrev SameHeld : Model → Type 0
  SameHeld x = x.held ≡ m.held

  -- what a call leaves of the claim
  claimed_by : (c : Call) → (after t m c).claimed ≡ claim_by t m c m.claimed
  claimed_by (claim k) = by (claim_rows k)
    where
      by : (o : Option Refusal) → (decided m o (claim_done t m k)).left.claimed ≡ cond (is_ok (decided m o (claim_done t m k)).answer) k m.claimed
      by None = refl
      by (Some e) = refl
  claimed_by (price zs room) = decided_both (λ x. SameClaim x.model) (lent m room) (price_rows t m zs room) (price_done t m zs room) refl (λ _. refl)
  claimed_by (sample room) = decided_both (λ x. SameClaim x.model) (lent m room) (sample_rows t m room) (sample_done t m room) refl (λ _. refl)
  claimed_by (strike zs) = decided_both SameClaim m (strike_rows t m zs) (keeping t m (cheaply t m zs)) refl (λ _. refl)
  claimed_by trim = decided_both SameClaim m (trim_rows m) (keeping t m (standing_in t (top m.pile))) refl (λ _. refl)
  claimed_by (split k routes) = decided_both SameClaim m (split_rows t m k routes) (split_done t m k routes) refl (λ _. refl)
  claimed_by (close zs) = decided_both SameClaim m (close_rows t m zs) (close_done m) refl (λ _. refl)
  claimed_by (offer p) = decided_both SameClaim m (offer_rows t m p) (offer_done t m p) refl (λ _. refl)
  claimed_by verdict = refl

  -- and of the plan held
  held_by : (c : Call) → (after t m c).held ≡ offer_by t m c m.held
  held_by (claim k) = decided_both SameHeld m (claim_rows k) (claim_done t m k) refl (λ _. refl)
  held_by (price zs room) = decided_both (λ x. SameHeld x.model) (lent m room) (price_rows t m zs room) (price_done t m zs room) refl (λ _. refl)
  held_by (sample room) = decided_both (λ x. SameHeld x.model) (lent m room) (sample_rows t m room) (sample_done t m room) refl (λ _. refl)
  held_by (strike zs) = decided_both SameHeld m (strike_rows t m zs) (keeping t m (cheaply t m zs)) refl (λ _. refl)
  held_by trim = decided_both SameHeld m (trim_rows m) (keeping t m (standing_in t (top m.pile))) refl (λ _. refl)
  held_by (split k routes) = decided_both SameHeld m (split_rows t m k routes) (split_done t m k routes) refl (λ _. refl)
  held_by (close zs) = decided_both SameHeld m (close_rows t m zs) (close_done m) refl (λ _. refl)
  held_by (offer p) = by (offer_rows t m p)
    where
      by : (o : Option Refusal) → (decided m o (offer_done t m p)).left.held ≡ cond (is_ok (decided m o (offer_done t m p)).answer) (Some p) m.held
      by None = refl
      by (Some e) = refl
  held_by verdict = refl

claimed_last : (t : Problem) (cs : List Call) (m : Model) → (run t cs m).claimed ≡ last_claim t cs m m.claimed
claimed_last t [] m = refl
claimed_last t (c ∷ cs) m = claimed_last t cs (after t m c) ∙ ap (last_claim t cs (after t m c)) (claimed_by t m c)

held_last : (t : Problem) (cs : List Call) (m : Model) → (run t cs m).held ≡ last_offer t cs m m.held
held_last t [] m = refl
held_last t (c ∷ cs) m = held_last t cs (after t m c) ∙ ap (last_offer t cs (after t m c)) (held_by t m c)

pub recalled : (t : Problem) (calls : List Call) → Recalled t calls
recalled t calls = record { claim = claimed_last t calls (opened t); held = held_last t calls (opened t) }
