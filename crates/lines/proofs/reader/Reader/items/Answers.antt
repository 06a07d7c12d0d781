use Rattle.std.proofs.Common.{length, sym, refl, ap, ◌∙◌, arith}
use Rattle.lines.specs.declared.form.Form.TheVariants as read
use Rattle.lines.specs.declared.word.Word.TheVariants as word
use Rattle.lines.specs.Forms.{Casebook, Places, Arc, Order, Seal, Claim, Price, Sample, Strike, Trim, Close, Offer, Verdict, pair}
use Rattle.lines.specs.Words.{Ending, Body, headed}
use Rattle.lines.proofs.Forming.{after, body_none}
use Rattle.lines.proofs.Holding.{row_held, arcs_held, kept_said, once_said, budget_said, split_said}
use Rattle.lines.proofs.reader.Reader.items.Goals as goal

-- the items break off
pub returns-in_err-header-in-Casebook : goal.returns-in_err-header-in-Casebook
unfolding Body
returns-in_err-header-in-Casebook c = rw c.from_residual.ensures (body_none _ word.Casebook _ _ c.in-Casebook.is c.in_err-header-in-Casebook.ensures)

pub returns-in_err-one-in-Places : goal.returns-in_err-one-in-Places
unfolding Body
returns-in_err-one-in-Places c = rw c.from_residual-in_err-one-in-Places.ensures (body_none _ word.Places _ _ c.in-Places.is c.in_err-one-in-Places.ensures)

pub returns-in_err-arc-in-Arc : goal.returns-in_err-arc-in-Arc
unfolding Body
returns-in_err-arc-in-Arc c = rw c.from_residual-in_err-arc-in-Arc.ensures (body_none _ word.Arc _ _ c.in-Arc.is c.in_err-arc-in-Arc.ensures)

pub returns-in_err-routes-in-Once : goal.returns-in_err-routes-in-Once
unfolding Body
returns-in_err-routes-in-Once c = rw c.from_residual-in_err-routes-in-Once.ensures (body_none _ word.Once _ _ c.in-Once.is c.in_err-routes-in-Once.ensures)

pub returns-in_err-first-in-Order : goal.returns-in_err-first-in-Order
unfolding Body
returns-in_err-first-in-Order c = rw c.from_residual-in_err-first-in-Order.ensures (body_none _ word.Order _ _ c.in-Order.is c.in_err-first-in-Order.ensures)

pub returns-in_err-limit-in-Budget : goal.returns-in_err-limit-in-Budget
unfolding Body
returns-in_err-limit-in-Budget c = rw c.from_residual-in_err-limit-in-Budget.ensures (body_none _ word.Budget _ _ c.in-Budget.is c.in_err-limit-in-Budget.ensures)

pub returns-in_err-one-in-Claim : goal.returns-in_err-one-in-Claim
unfolding Body
returns-in_err-one-in-Claim c = rw c.from_residual-in_err-one-in-Claim.ensures (body_none _ word.Claim _ _ c.in-Claim.is c.in_err-one-in-Claim.ensures)

pub returns-in_err-place-in-Split : goal.returns-in_err-place-in-Split
unfolding Body
returns-in_err-place-in-Split c = rw c.from_residual-in_err-place-in-Split.ensures (body_none _ word.Split _ _ c.in-Split.is c.in_err-place-in-Split.ensures)

-- the items are there
pub returns-in_ok-header-in-Casebook : goal.returns-in_ok-header-in-Casebook
unfolding headed
returns-in_ok-header-in-Casebook c = record { form = Casebook; means = refl; proper = tt; whole = after _ word.Casebook _ _ c.in-Casebook.is c.in_ok-header-in-Casebook.ensures }

pub returns-in_ok-one-in-Places : goal.returns-in_ok-one-in-Places
unfolding headed
returns-in_ok-one-in-Places c = let h = c.in_ok-one-in-Places.ensures in record { form = Places _; means = refl; proper = h.0; whole = after _ word.Places _ _ c.in-Places.is h.1 }

pub returns-in_ok-arc-in-Arc : goal.returns-in_ok-arc-in-Arc
unfolding headed
returns-in_ok-arc-in-Arc c = let h = c.in_ok-arc-in-Arc.ensures in record { form = Arc _; means = refl; proper = (h.0, h.1, h.2, h.3, h.4); whole = after _ word.Arc _ _ c.in-Arc.is h.5 }

pub returns-in_ok-routes-in-Once : goal.returns-in_ok-routes-in-Once
returns-in_ok-routes-in-Once c = once_said _ _ _ c.in-Once.is c.requires c.in_ok-routes-in-Once.ensures

pub returns-in_ok-first-in-Order : goal.returns-in_ok-first-in-Order
unfolding headed
returns-in_ok-first-in-Order c = let h = c.in_ok-first-in-Order.ensures in record { form = Order _ _; means = refl; proper = (h.0, h.1); whole = after _ word.Order _ _ c.in-Order.is h.2 }

pub returns-in_ok-limit-in-Budget : goal.returns-in_ok-limit-in-Budget
returns-in_ok-limit-in-Budget c = budget_said _ _ _ _ c.in-Budget.is c.requires c.in_ok-limit-in-Budget.ensures

pub returns-in_ok-one-in-Claim : goal.returns-in_ok-one-in-Claim
unfolding headed
returns-in_ok-one-in-Claim c = let h = c.in_ok-one-in-Claim.ensures in record { form = Claim _; means = refl; proper = h.0; whole = after _ word.Claim _ _ c.in-Claim.is h.1 }

pub returns-in_ok-place-in-Split : goal.returns-in_ok-place-in-Split
returns-in_ok-place-in-Split c = split_said _ _ _ _ c.in-Split.is c.requires c.in_ok-place-in-Split.ensures

-- the form is handed on
pub returns-in-Seal : goal.returns-in-Seal
unfolding Body headed
returns-in-Seal c = kept_said c.bare.result read.Seal Ending _ word.Seal _ _ c.in-Seal.is (λ h. h) (λ e. record { form = Seal; means = refl; proper = tt; whole = after _ word.Seal _ _ c.in-Seal.is e }) c.bare.ensures

pub returns-in-Sample : goal.returns-in-Sample
unfolding Body headed
returns-in-Sample c = kept_said c.bare-in-Sample.result read.Sample Ending _ word.Sample _ _ c.in-Sample.is (λ h. h) (λ e. record { form = Sample; means = refl; proper = tt; whole = after _ word.Sample _ _ c.in-Sample.is e }) c.bare-in-Sample.ensures

pub returns-in-Trim : goal.returns-in-Trim
unfolding Body headed
returns-in-Trim c = kept_said c.bare-in-Trim.result read.Trim Ending _ word.Trim _ _ c.in-Trim.is (λ h. h) (λ e. record { form = Trim; means = refl; proper = tt; whole = after _ word.Trim _ _ c.in-Trim.is e }) c.bare-in-Trim.ensures

pub returns-in-Verdict : goal.returns-in-Verdict
unfolding Body headed
returns-in-Verdict c = kept_said c.bare-in-Verdict.result read.Verdict Ending _ word.Verdict _ _ c.in-Verdict.is (λ h. h) (λ e. record { form = Verdict; means = refl; proper = tt; whole = after _ word.Verdict _ _ c.in-Verdict.is e }) c.bare-in-Verdict.ensures

pub returns-in_err-row-in-Price : goal.returns-in_err-row-in-Price
unfolding Body
returns-in_err-row-in-Price c = rw c.from_residual-in_err-row-in-Price.ensures (body_none _ word.Price _ _ c.in-Price.is c.in_err-row-in-Price.ensures)

pub returns-in_ok-row-in-Price : goal.returns-in_ok-row-in-Price
unfolding headed
returns-in_ok-row-in-Price c =
    let r = c.in_ok-row-in-Price.ensures in
    let h = row_held pair _ (omega (arith, ap length r.1, c.requires)) r.0 in
    record { form = Price h.0; means = (h.0, h.1, refl); proper = h.1.short; whole = after _ word.Price _ _ c.in-Price.is (sym r.1 ∙ h.1.written) }

pub returns-in_err-row-in-Strike : goal.returns-in_err-row-in-Strike
unfolding Body
returns-in_err-row-in-Strike c = rw c.from_residual-in_err-row-in-Strike.ensures (body_none _ word.Strike _ _ c.in-Strike.is c.in_err-row-in-Strike.ensures)

pub returns-in_ok-row-in-Strike : goal.returns-in_ok-row-in-Strike
unfolding headed
returns-in_ok-row-in-Strike c =
    let r = c.in_ok-row-in-Strike.ensures in
    let h = row_held pair _ (omega (arith, ap length r.1, c.requires)) r.0 in
    record { form = Strike h.0; means = (h.0, h.1, refl); proper = h.1.short; whole = after _ word.Strike _ _ c.in-Strike.is (sym r.1 ∙ h.1.written) }

pub returns-in_err-row-in-Close : goal.returns-in_err-row-in-Close
unfolding Body
returns-in_err-row-in-Close c = rw c.from_residual-in_err-row-in-Close.ensures (body_none _ word.Close _ _ c.in-Close.is c.in_err-row-in-Close.ensures)

pub returns-in_ok-row-in-Close : goal.returns-in_ok-row-in-Close
unfolding headed
returns-in_ok-row-in-Close c =
    let r = c.in_ok-row-in-Close.ensures in
    let h = row_held pair _ (omega (arith, ap length r.1, c.requires)) r.0 in
    record { form = Close h.0; means = (h.0, h.1, refl); proper = h.1.short; whole = after _ word.Close _ _ c.in-Close.is (sym r.1 ∙ h.1.written) }

pub returns-in_err-row-in-Offer : goal.returns-in_err-row-in-Offer
unfolding Body
returns-in_err-row-in-Offer c = rw c.from_residual-in_err-row-in-Offer.ensures (body_none _ word.Offer _ _ c.in-Offer.is c.in_err-row-in-Offer.ensures)

pub returns-in_ok-row-in-Offer : goal.returns-in_ok-row-in-Offer
unfolding headed
returns-in_ok-row-in-Offer c =
    let r = c.in_ok-row-in-Offer.ensures in
    let h = arcs_held _ (omega (arith, ap length r.1, c.requires)) r.0 in
    record { form = Offer h.0; means = (h.0, h.1, refl); proper = h.1.short; whole = after _ word.Offer _ _ c.in-Offer.is (sym r.1 ∙ h.2) }
