-- A plan's priced amount, an arc's price and the limits' share, in thousandths of a minute. Where there are more rules
-- than multipliers, or more multipliers than rules, those too many count nothing. Assumes nothing.
use Rattle.std.specs.Prelude.{ℕ, ◌*◌, List, [], ◌∷◌, ℤ, pos, ◌+ℤ◌, ◌*ℤ◌, neg_ℤ}
use Rattle.terms.specs.declared.arc.Arc.{Arc}
use Rattle.plans.specs.Arcs.{arc_at}
use Rattle.rules.specs.Rules.{Rule}
use Rattle.rules.specs.Lawful.{Problem, total, cost_of}

-- what the rules charge a plan: the sum of multiplier × total
abbrev pub charge : List Arc → List Rule → List ℤ → List ℕ → ℤ
charge arcs [] zs p = pos 0
charge arcs (u ∷ us) [] p = pos 0
charge arcs (u ∷ us) (z ∷ zs) p = (z *ℤ total arcs u p) +ℤ charge arcs us zs p

-- a plan's priced amount: 1000 × cost, and what the rules charge
abbrev pub amount : Problem → List ℤ → List ℕ → ℤ
amount t zs p = pos (1000 * cost_of t p) +ℤ charge t.arcs t.rules zs p

-- what a place and a route are worth: the sum of multiplier × weight
abbrev pub worth : List Rule → List ℤ → ℕ → ℕ → ℤ
worth [] zs place route = pos 0
worth (u ∷ us) [] place route = pos 0
worth (u ∷ us) (z ∷ zs) place route = (z *ℤ u.weight place route) +ℤ worth us zs place route

-- the limits' share: minus the sum of multiplier × limit
abbrev pub owed : List Rule → List ℤ → ℤ
owed [] zs = pos 0
owed (u ∷ us) [] = pos 0
owed (u ∷ us) (z ∷ zs) = neg_ℤ (z *ℤ u.limit) +ℤ owed us zs

-- an arc's price: 1000 × minutes, and what its place and route are worth
abbrev pub arc_price : List Rule → List ℤ → Arc → ℤ
arc_price us zs x = pos (1000 * x.minutes) +ℤ worth us zs x.place x.route

-- the sum of the prices of a plan's arcs
abbrev pub price_sum : Problem → List ℤ → List ℕ → ℤ
price_sum t zs [] = pos 0
price_sum t zs (a ∷ p) = arc_price t.rules zs (arc_at t.arcs a) +ℤ price_sum t zs p
