use Rattle.std.proofs.Common.{ℕ, ◌≡◌, true, false, Bool, ◌&&◌, eqb, ◌∙◌, arith, rules, tests}
use Rattle.std.specs.List.{zip}
use Rattle.std.proofs.lemmas.Iterator.{YieldsList-from_slice, YieldsList-from_zip, cases_from_any}
use Rattle.terms.specs.declared.arc.Arc.{Arc}
use Rattle.terms.specs.Routes.{in_set}
use Rattle.piles.specs.Heights.{on_side}
use Rattle.piles.proofs.Marking.{any_zipped, any_told}
use Rattle.piles.proofs.pile.Marks.any_on_side.Goals as goal

pub returns : goal.returns
returns c =
    let s = c.args.self.now in
    let arcs = c.args.arcs.all.now in
    let x = c.args.split in
    let test : ℕ × Arc → Bool = λ p. eqb p.0 0 && (eqb p.1.place x.place && on_side c.args.side (in_set x.routes.bits p.1.route)) in
    any_told test (zip s.at arcs) _ (cases_from_any c.any.new.self _ _ (λ p. test p ≡ true) (λ p. test p ≡ false) c.any.ensures.ran (YieldsList-from_zip (YieldsList-from_slice s.at cc) (YieldsList-from_slice arcs cc)) (λ p q k. search (rules, tests)) (λ p q k. search (rules, tests)))
    ∙ any_zipped s.at arcs x.place x.routes.bits c.args.side (omega arith)
