-- Routes put into a set one after another. Assumes nothing.
use Rattle.std.proofs.Common.{ℕ, cond, List, Ok, Err, Result}
use Rattle.std.specs.List.{list_any}
use Rattle.terms.specs.declared.refusal.Refusal.{Refusal}
use Rattle.terms.specs.declared.refusal.Refusal.TheVariants.{RouteRange}
use Rattle.terms.specs.declared.routes.RouteSet.{RouteSet}
use Rattle.unsealed.specs.Items.{no_route, gathered, as_set}

-- what is found with a set so far, from the routes that are left
abbrev pub read : ℕ → List ℕ → Result RouteSet Refusal
read bits qs = cond (list_any no_route qs) (Err RouteRange) (Ok (as_set (gathered bits qs)))
