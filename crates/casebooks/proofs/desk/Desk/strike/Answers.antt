use Rattle.std.proofs.Common.{◌≡◌, ℕ, ◌<◌, false, ◌∷◌, length, get_or, ℤ, Ok, ap, ◌∙◌, ap₂, w64, SFits, to_z, of_z, rules}
use lib.Signed.{lt_z}
use Rattle.std.proofs.lemmas.Int.{to_z-of_z}
use Rattle.plans.specs.Cases.{Case, those, kept, gone, size}
use Rattle.charts.specs.Drafts.{arcs_of}
use Rattle.amounts.specs.Amounts.{amount}
use Rattle.judging.specs.Cases.{mark, standing_in, top, under, piled}
use Rattle.judging.specs.Calls.{cheaply}
use Rattle.casebooks.specs.Desks.{problem_of, model_of}
use Rattle.casebooks.proofs.Working.{same_case, kept_case}
use Rattle.casebooks.proofs.desk.Desk.strike.Goals as goal

pub returns : goal.returns
returns g c =
    let d = c.args.self.now in
    let m = model_of d in
    let arcs = arcs_of d.chart in
    let t = problem_of d (g.B.Bank.rules c.args.pricing.now.bank.now) in
    let zs = c.args.pricing.now.multipliers.now in
    let s = top m.pile in
    let new = c.strike-removed.new.standing in
    let f : SFits w64 c.mark.result = search rules in
    let at : to_z w64 (of_z w64 c.mark.result) ≡ mark m.claimed = to_z-of_z w64 c.mark.result f ∙ c.mark.ensures in
    let same = same_case c.working-standing.result s c.working-standing.ensures.each in
    let each : (a : ℕ) → a < length arcs → get_or new a false ≡ kept (cheaply t m zs) s a = λ a l. (c.strike-removed.ensures.marks a l ∙ ap₂ (λ (z : ℤ) (r : Case). kept (those (λ p. lt_z (amount t zs p) z) (standing_in t r)) r a) at same) in
    record {
      chart = c.keep.ensures.chart;
      answer = ap Ok (c.strike-removed.ensures.answer ∙ ap₂ (λ (z : ℤ) (r : Case). size (gone (those (λ p. lt_z (amount t zs p) z) (standing_in t r)) r) (length arcs)) at same);
      model = c.keep.ensures.model ∙ ap (λ (r : Case). piled m (r ∷ under m.pile)) (kept_case s (cheaply t m zs) new (length arcs) each c.working-standing.ensures.beyond);
    }
