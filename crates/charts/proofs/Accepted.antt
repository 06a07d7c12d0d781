-- An arc in range is refused by no row. Assumes nothing.
use Rattle.std.proofs.Common.{◌≡◌, ◌<◌, ◌≤◌, false, not, ◌&&◌, leb, length, None}
use Rattle.std.proofs.lemmas.Bool.{le-ltb, lt-leb}
use Rattle.terms.specs.declared.arc.NewArc.{NewArc}
use Rattle.charts.specs.Drafts.{Layout, off_nodes, arc_rows}

pub no_row : (d : Layout) (x : NewArc) → not (leb 1 x.place && leb x.place d.places) ≡ false → off_nodes d.places x ≡ false → x.route ≤ 63 → x.minutes ≤ 10000 → length d.arcs < 1024 → arc_rows d x ≡ None
no_row d x a b r m l = rw (a, b, le-ltb 63 x.route r, le-ltb 10000 x.minutes m, lt-leb 1024 (length d.arcs) l)
