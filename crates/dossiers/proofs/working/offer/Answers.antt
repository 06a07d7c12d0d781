use Rattle.std.proofs.Common.{ℕ, List, refl, ◌∙◌, rules}
use Rattle.casebooks.specs.Views.{problem_in, model_in}
use Rattle.lines.specs.Cursors.{HoldsNumbers}
use Rattle.lines.specs.Forms.{Offer}
use Rattle.dossiers.specs.Tolds.{replied_by}
use Rattle.dossiers.specs.Works.{on_work}
use Rattle.dossiers.proofs.Worked.{Made, with_arcs}
use Rattle.dossiers.proofs.working.offer.Goals as goal

pub returns : goal.returns
returns g c =
    let t = problem_in g.B.Bank c.args.book.now in
    let m = model_in c.args.book.now in
    let made : (arcs : List ℕ) → HoldsNumbers arcs c.args.items → Made (on_work t m (Offer arcs)) (replied_by c.map.result) (model_in c.offer.new.self) =
    λ arcs h. with_arcs t m arcs c.deref.result.now t.places refl c.args.book.now.desk.chart.sealed.few (c.deref.ensures.0 ∙ c.offered-arcs.ensures arcs h) (search rules) c.offer.ensures.reply c.offer.ensures.left in
    record { reply = λ arcs h. (made arcs h).reply; left = λ arcs h. (made arcs h).left; same = c.offer.ensures.same }
