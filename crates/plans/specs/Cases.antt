-- Sets of arcs, and the plans that stand in one. Assumes nothing.
use Rattle.std.specs.Prelude.{ℕ, zero, suc, Bool, true, false, cond, not, ◌&&◌, ◌||◌, List, [], ◌∷◌, length, ◌==◌, nat_lt}
use Rattle.terms.specs.declared.arc.Arc.{Arc}
use Rattle.plans.specs.Plans.{plans}

-- a case: a set of arcs, by number
abbrev pub Case : Type 0
Case = ℕ → Bool

-- the case that has every arc
abbrev pub every : List Arc → Case
every arcs a = nat_lt a (length arcs)

-- a plan stands when all its arcs do
abbrev pub stands : Case → List ℕ → Bool
stands s [] = true
stands s (a ∷ p) = s a && stands s p

-- those of a list of plans that pass a test, in their order
abbrev pub those : (List ℕ → Bool) → List (List ℕ) → List (List ℕ)
those f [] = []
those f (p ∷ ps) = cond (f p) (p ∷ those f ps) (those f ps)

-- the standing plans, in order
abbrev pub standing : ℕ → List Arc → Case → List (List ℕ)
standing n arcs s = those (stands s) (plans n arcs)

-- whether an arc is on a plan, and on some plan of a list
abbrev pub on : ℕ → List ℕ → Bool
on a [] = false
on a (b ∷ p) = a == b || on a p

abbrev pub on_some : List (List ℕ) → Case
on_some [] a = false
on_some (p ∷ ps) a = on a p || on_some ps a

-- the arcs of a case that are on some plan of a list, and those that are on none
abbrev pub kept : List (List ℕ) → Case → Case
kept ps s a = s a && on_some ps a

abbrev pub gone : List (List ℕ) → Case → Case
gone ps s a = s a && not (on_some ps a)

-- how many arcs below n a case has, and whether it has any
abbrev pub size : Case → ℕ → ℕ
size s zero = 0
size s (suc n) = cond (s n) (suc (size s n)) (size s n)

abbrev pub any : Case → ℕ → Bool
any s zero = false
any s (suc n) = s n || any s n
