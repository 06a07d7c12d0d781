-- Tests of whole numbers. Assumes nothing.
use Rattle.std.proofs.Common.{◌≡◌, true, false, ℤ, ◌≤ℤ◌, ◌<ℤ◌, arith}
use lib.Signed.{le_z, lt_z}
use Rattle.std.proofs.lemmas.Int.{ints}

-- a test of less that says yes
pub lt_z_true : (a b : ℤ) → lt_z a b ≡ true → a <ℤ b
lt_z_true a b h = grind (arith, ints)

-- a test of less that says no
pub lt_z_false : (a b : ℤ) → lt_z a b ≡ false → b ≤ℤ a
lt_z_false a b h = grind (arith, ints)

-- what is less passes the test
pub lt_lt_z : (a b : ℤ) → a <ℤ b → lt_z a b ≡ true
lt_lt_z a b h = grind (arith, ints)

-- what is not less fails it
pub le_lt_z : (a b : ℤ) → b ≤ℤ a → lt_z a b ≡ false
le_lt_z a b h = grind (arith, ints)

-- a test of at most that says yes
pub le_z_true : (a b : ℤ) → le_z a b ≡ true → a ≤ℤ b
le_z_true a b h = grind (arith, ints)

-- a test of at most that says no
pub le_z_false : (a b : ℤ) → le_z a b ≡ false → b <ℤ a
le_z_false a b h = grind (arith, ints)

-- what is at most passes the test
pub le_le_z : (a b : ℤ) → a ≤ℤ b → le_z a b ≡ true
le_le_z a b h = grind (arith, ints)
