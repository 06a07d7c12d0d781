-- Numbers as they are passed to a call, in 64 bits. Assumes nothing.
use Rattle.std.proofs.Common.{◌≡◌, ◌<◌, ℤ, nat_abs, arith, w64, to_z, of_z}
use Rattle.std.proofs.lemmas.Int.{to_z-of_z}
use Rattle.amounts.proofs.Sizes.{fits}
use Rattle.tallies.specs.Laws.{wide}

-- a number as it is passed
abbrev pub passed : ℤ → ℤ
passed z = to_z w64 (of_z w64 z)

-- one that is not too large is passed as it is
pub passed_is : (z : ℤ) → nat_abs z < wide → passed z ≡ z
passed_is z h = to_z-of_z w64 z (fits z 200_000_000_000_000_000 (omega arith) (omega arith))
