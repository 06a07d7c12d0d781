use Rattle.std.proofs.Common.{ℕ, List, rules}
use Rattle.lines.specs.Cursors.{HoldsNumbers}
use Rattle.lines.specs.Forms.{Split}
use Rattle.casebooks.specs.Views.{problem_in, model_in}
use Rattle.dossiers.specs.Tolds.{replied_by}
use Rattle.dossiers.specs.Works.{on_work}
use Rattle.dossiers.proofs.Worked.{Made, with_routes}
use Rattle.dossiers.proofs.working.split.Goals as goal

pub returns : goal.returns
returns g c =
    let t = problem_in g.B.Bank c.args.book.now in
    let m = model_in c.args.book.now in
    let made : (qs : List ℕ) → HoldsNumbers qs c.args.items → Made (on_work t m (Split c.args.place qs)) (replied_by c.map.result) (model_in c.split.new.self) =
    λ qs h. with_routes t m c.args.place qs c.in_ok-routes.routes (c.in_ok-routes.ensures qs h) (search rules) c.split.ensures.reply c.split.ensures.left in
    record { reply = λ qs h. (made qs h).reply; left = λ qs h. (made qs h).left; same = c.split.ensures.same }
