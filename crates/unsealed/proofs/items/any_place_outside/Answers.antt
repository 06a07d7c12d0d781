use Rattle.std.proofs.Common.{rules, tests}
use Rattle.std.proofs.lemmas.Iterator.Search.{any_from_yields_List}
use Rattle.lines.proofs.Yielding.{held_yields}
use Rattle.unsealed.specs.Items.{place_outside}
use Rattle.unsealed.proofs.items.any_place_outside.Goals as goal

pub returns : goal.returns
returns c = λ xs h. any_from_yields_List (place_outside c.args.places) _ _ _ c.any.ensures.ran (held_yields xs h) (λ x b q k. search (rules, tests))
