-- The laws of the kinds of tally. Assumes nothing.
use Rattle.std.specs.Prelude.{◌≡◌, Bool, true, false, ◌||◌, ◌⊎◌, ℤ, pos, ◌+ℤ◌, Some, None, Option, refl}
use Rattle.std.proofs.Common.{ap, arith, rules}
use Rattle.std.proofs.lemmas.Int.{ints}
use Rattle.tallies.specs.Kinds.{least_join, least_extend, least_size}
use Rattle.tallies.specs.Laws.{TallyLaws}

pub least_lawful : TallyLaws None (Some (pos 0)) least_join least_extend least_size
least_lawful = record {
  assoc = search rules;
  comm = search rules;
  neutral = search rules;
  distributes = search rules;
  absorbs = search rules;
  nothing_small = search rules;
  start_small = search rules;
  joins_small = search rules;
  extends_small = search rules;
}

pub reach_lawful : TallyLaws false true (λ (a b : Bool). a || b) (λ a (_ : ℤ). a) (λ _. 0)
reach_lawful = search rules

-- both kinds choose
pub least_chooses : (x y : Option ℤ) → (least_join x y ≡ x) ⊎ (least_join x y ≡ y)
least_chooses x y = search rules

pub reach_chooses : (x y : Bool) → ((x || y) ≡ x) ⊎ ((x || y) ≡ y)
reach_chooses x y = search rules

-- extension by one price tells least amounts apart
pub least_apart : (x y : Option ℤ) (p : ℤ) → least_extend x p ≡ least_extend y p → x ≡ y
least_apart None None p e = refl
least_apart None (Some y) p e = cc
least_apart (Some x) None p e = cc
least_apart (Some x) (Some y) p e = let s : x +ℤ p ≡ y +ℤ p = cc in ap Some (omega (arith, ints))
