-- What each kind of tally owes. Assumes nothing.
use Rattle.std.specs.Prelude.{◌≡◌, ℕ, ◌+◌, ◌<◌, ◌≤◌, max, ℤ, unsigned_abs}

-- the size below which the laws on an extension are owed
abbrev pub wide : ℕ
wide = 200_000_000_000_000_000

-- the size that an amount may have before any arc is priced
abbrev pub slight : ℕ
slight = 1_000_000_000

-- the largest size of an arc's price
abbrev pub steep : ℕ
steep = 1_280_000_010_000_000

pub record TallyLaws {A : Type 0} (nothing : A) (start : A) (joins : A → A → A) (extends : A → ℤ → A) (size : A → ℕ) : Type 0 where
  -- joining is associative and commutative, and "no plan" is neutral in it
  pub assoc : (a b c : A) → joins (joins a b) c ≡ joins a (joins b c)
  pub comm : (a b : A) → joins a b ≡ joins b a
  pub neutral : (a : A) → joins nothing a ≡ a
  -- extending a joining equals joining the extensions, and "no plan" extends to itself
  pub distributes : (a b : A) (p : ℤ) → size a < wide → size b < wide → unsigned_abs p < wide → extends (joins a b) p ≡ joins (extends a p) (extends b p)
  pub absorbs : (p : ℤ) → unsigned_abs p < wide → extends nothing p ≡ nothing
  -- sizes
  pub nothing_small : size nothing ≤ slight
  pub start_small : size start ≤ slight
  pub joins_small : (a b : A) → size (joins a b) ≤ max (max (size a) (size b)) slight
  pub extends_small : (a : A) (p : ℤ) → size a < wide → unsigned_abs p < wide → size (extends a p) ≤ size a + unsigned_abs p
