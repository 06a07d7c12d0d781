-- What the tally of the smaller amount does with amounts. Assumes nothing.
use Rattle.std.specs.Prelude.{ℕ, cond, ℤ, ◌+ℤ◌, Some, None, Option, int_lt, unsigned_abs}

-- the smaller of two amounts, of which either may be missing
abbrev pub least_join : Option ℤ → Option ℤ → Option ℤ
least_join None b = b
least_join (Some x) None = Some x
least_join (Some x) (Some y) = cond (int_lt y x) (Some y) (Some x)

abbrev pub least_extend : Option ℤ → ℤ → Option ℤ
least_extend None p = None
least_extend (Some x) p = Some (x +ℤ p)

abbrev pub least_size : Option ℤ → ℕ
least_size None = 0
least_size (Some x) = unsigned_abs x
