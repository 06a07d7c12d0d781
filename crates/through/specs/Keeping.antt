-- Which arcs are kept, by the amounts before and behind each. Assumes nothing.
use Rattle.std.specs.Prelude.{◌≡◌, ℕ, suc, ◌<◌, ◌≤◌, Bool, true, false, not, ◌&&◌, List, length, ℤ, Some, None, Option, int_lt}
use Rattle.terms.specs.declared.arc.Arc.{Arc}
use Rattle.plans.specs.Arcs.{arc_at}
use Rattle.plans.specs.Cases.{Case, size}
use Rattle.tallies.specs.Kinds.{least_extend}
use Rattle.tallies.specs.declared.tally.Tally.{Ghosts}
use Rattle.ways.specs.Amounts.{marked, price_at, forward_amount, backward_amount}

-- the least amount of the plans through an arc: that before it, its price and that behind it, where there is such a plan
abbrev pub through_arc : Option ℤ → ℤ → Option ℤ → Option ℤ
through_arc front x None = None
through_arc front x (Some b) = least_extend (least_extend front x) b

-- whether there is an amount and it is below a mark
abbrev pub below : Option ℤ → ℤ → Bool
below None mark = false
below (Some x) mark = int_lt x mark

-- the joining over all standing partial plans from the root to where arc a starts, and from where it ends to the end
abbrev pub amount_before : {X A : Type 0} → Ghosts X A → List Arc → Case → (ℕ → ℤ) → ℕ → A
amount_before t arcs s price a = forward_amount t arcs s price (arc_at arcs a).place (arc_at arcs a).start

abbrev pub amount_behind : {X A : Type 0} → Ghosts X A → ℕ → List Arc → Case → (ℕ → ℤ) → ℕ → A
amount_behind t n arcs s price a = backward_amount t n arcs s price (suc (arc_at arcs a).place) (arc_at arcs a).end

-- the test by the least amounts: with the share, the least amount of the plans through the arc is below the mark
abbrev pub below_mark : ℤ → ℤ → ℤ → Option ℤ → Option ℤ → Bool
below_mark share mark x front back = below (least_extend (through_arc front x back) share) mark

-- the test by reach: both ends are reached
abbrev pub both_reached : ℤ → Bool → Bool → Bool
both_reached x front back = front && back

-- of each arc that is marked, what is said of its price, the amount before it and the amount behind it is whether it is to be
-- kept
abbrev pub Tells : {X A : Type 0} → Ghosts X A → ℕ → List Arc → List Bool → List ℤ → (ℤ → A → A → Bool → Type 0) → Case → Type 0
Tells t n arcs on prices says keep =
    (a : ℕ) (r : Bool) → a < length arcs → marked on a ≡ true → says (price_at prices a) (amount_before t arcs (marked on) (price_at prices) a) (amount_behind t n arcs (marked on) (price_at prices) a) r → r ≡ keep a

-- of the first n marks those of the arcs that are to be kept are left, and the others are taken away and counted; the marks
-- behind them are as they were
pub record Sifted (keep : Case) (n : ℕ) (old new : List Bool) (count : ℕ) : Type 0 where
  pub marks : (a : ℕ) → a < n → marked new a ≡ (marked old a && keep a)
  pub rest : (a : ℕ) → n ≤ a → marked new a ≡ marked old a
  pub answer : count ≡ size (λ a. marked old a && not (keep a)) n
