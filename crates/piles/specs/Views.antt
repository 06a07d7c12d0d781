-- The cases that a pile stands for. Assumes nothing.
use Rattle.std.specs.Prelude.{List}
use Rattle.terms.specs.declared.arc.Arc.{Arc}
use Rattle.plans.specs.Cases.{Case}
use Rattle.piles.specs.declared.pile.Pile.{Pile}
use Rattle.piles.specs.Heights.{cases_of}

-- the open cases, the working case first
abbrev pub pile_of : List Arc → Pile → List Case
pile_of arcs p = cases_of arcs p.marks.at p.table.at p.table.count
