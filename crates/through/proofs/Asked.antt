-- The parts that a rule has in prices, as code forms them. Assumes nothing.
use Rattle.std.proofs.Common.{◌≡◌, ℕ, ◌<◌, ◌≤◌, true, List, length, get_or, ℤ, pos, ◌-ℤ◌, ◌*ℤ◌, neg_ℤ, nat_abs, ap, ◌∙◌, arith, w64, SFits}
use Rattle.rules.specs.Rules.{Rule, no_rule, counted, InRange, on_grid}
use Rattle.amounts.specs.Sums.{worth_of, owed_of}
use Rattle.amounts.proofs.Lowest.{fair_length}
use Rattle.amounts.proofs.Sizes.{within_size, multiplier_size}
use Rattle.amounts.proofs.Passed.{product_fits, product_is, minus_fits, minus_is}
use Rattle.through.specs.Pricings.{Priceable}
use Rattle.through.proofs.Passed.{passed}

module _ (us : List Rule) (zs : List ℤ) (asked : Priceable us zs) where
  -- a multiplier's rule is there
  pub rule_there : (r : ℕ) → r < length zs → r < length us
  rule_there r l = omega (arith, fair_length us zs asked.fair)

  -- and below the count
  pub rule_counted : (r : ℕ) → r < length zs → r < counted us
  rule_counted r l = omega (arith, rule_there r l, asked.few)

  module _ (range : InRange us) (r : ℕ) (l : r < length zs) where
    -- the multiplier
    abbrev m : ℤ
    m = get_or zs r (pos 0)

    -- it is in its range
    m_size : nat_abs m ≤ 1_000_000_000
    m_size = multiplier_size us zs range asked.fair r (rule_there r l)

    -- the multiplier times the weight that the bank answers
    module _ (place route : ℕ) (g : on_grid place route ≡ true) (w : ℤ) (e : w ≡ (get_or us r no_rule).weight place route) where
      w_size : nat_abs w ≤ 1_000_000
      w_size = rw e (omega (arith, within_size 10_000 _ ((range r (rule_there r l)).weight place route g)))

      pub worth_fits : SFits w64 (passed m *ℤ passed w)
      worth_fits = product_fits m w m_size w_size

      pub worth_is : passed (passed m *ℤ passed w) ≡ worth_of us zs place route r
      worth_is = product_is m w m_size w_size ∙ ap (λ x. m *ℤ x) e

    -- minus the multiplier times the limit that it answers
    module _ (h : ℤ) (e : h ≡ (get_or us r no_rule).limit) where
      h_size : nat_abs h ≤ 1_000_000
      h_size = rw e (within_size 1_000_000 _ (range r (rule_there r l)).limit)

      pub limit_fits : SFits w64 (passed m *ℤ passed h)
      limit_fits = product_fits m h m_size h_size

      pub owed_fits : SFits w64 (pos 0 -ℤ passed (passed m *ℤ passed h))
      owed_fits = minus_fits m h m_size h_size

      pub owed_is : passed (pos 0 -ℤ passed (passed m *ℤ passed h)) ≡ owed_of us zs r
      owed_is = minus_is m h m_size h_size ∙ ap (λ x. neg_ℤ (m *ℤ x)) e
