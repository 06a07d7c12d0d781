-- The rules whose multiplier is not 0, collected one by one, and sums over them. Assumes nothing.
use Rattle.std.proofs.Common.{◌≡◌, ℕ, zero, suc, ◌+◌, ◌*◌, ◌<◌, ◌≤◌, Bool, true, false, cond, List, [], ◌∷◌, ◌++◌, length, get_or, ℤ, pos, negsuc, ◌+ℤ◌, ◌*ℤ◌, neg_ℤ, nat_abs, sym, refl, ap, ◌∙◌, subst, ap₂, add-one, arith, length-append, below_more}
use Rattle.std.proofs.Math.ListN.{get_or-append}
use Rattle.std.proofs.Math.Seq.{get_or-append_seam}
use Rattle.std.proofs.lemmas.Bool.{true≢false}
use lib.IntN.{zero-*ℤ, +ℤ_idr}
use Rattle.terms.specs.declared.arc.Arc.{Arc}
use Rattle.rules.specs.Rules.{Rule, no_rule, InRange}
use Rattle.amounts.specs.Amounts.{owed, arc_price}
use Rattle.amounts.specs.Sums.{sum_to, worth_of, owed_of}
use Rattle.amounts.proofs.Lowest.{fair_length}
use Rattle.amounts.proofs.Sums.{worth_sum, owed_sum}
use Rattle.amounts.proofs.Sizes.{add_size, sum_size, worth_of_size, owed_of_size}
use Rattle.through.specs.Pricings.{Priceable, Gridded, counts, counting_below, counting}

-- sums of the same numbers, as far as they go
sum_agree : (f g : ℕ → ℤ) (n : ℕ) → ((r : ℕ) → r < n → f r ≡ g r) → sum_to f n ≡ sum_to g n
sum_agree f g zero h = refl
sum_agree f g (suc n) h = ap₂ ◌+ℤ◌ (sum_agree f g n (λ r l. h r (omega arith))) (h n (omega arith))

-- a rule more is added if its multiplier is not 0
pub counting_more : (zs : List ℤ) (m : ℕ) (xs : List ℕ) → xs ≡ counting_below zs m → counts (get_or zs m (pos 0)) ≡ true → (xs ++ m ∷ []) ≡ counting_below zs (m + 1)
counting_more zs m xs e h =
    ap (λ ys. ys ++ m ∷ []) e
    ∙ sym (ap (counting_below zs) (add-one m) ∙ ap (λ b. cond b (counting_below zs m ++ m ∷ []) (counting_below zs m)) h)

-- and left out if it is
pub counting_skip : (zs : List ℤ) (m : ℕ) (xs : List ℕ) → xs ≡ counting_below zs m → counts (get_or zs m (pos 0)) ≡ false → xs ≡ counting_below zs (m + 1)
counting_skip zs m xs e h =
    e ∙ sym (ap (counting_below zs) (add-one m) ∙ ap (λ b. cond b (counting_below zs m ++ m ∷ []) (counting_below zs m)) h)

-- the numbers are those of rules below m, and whatever is summed over the rules, and is 0 where the multiplier is, is the
-- sum over these
pub record Collected (zs : List ℤ) (m : ℕ) (numbers : List ℕ) : Type 0 where
  pub few : length numbers ≤ m
  pub below : (j : ℕ) → j < length numbers → get_or numbers j 0 < m
  pub whole : (f : ℕ → ℤ) → ((r : ℕ) → get_or zs r (pos 0) ≡ pos 0 → f r ≡ pos 0) → sum_to (λ j. f (get_or numbers j 0)) (length numbers) ≡ sum_to f m

-- a multiplier that does not count is 0
not_counts : (z : ℤ) → counts z ≡ false → z ≡ pos 0
not_counts (pos zero) e = refl
not_counts (pos (suc n)) e = absurd (true≢false e)
not_counts (negsuc n) e = absurd (true≢false e)

module _ (zs : List ℤ) (m : ℕ) (numbers : List ℕ) (c : Collected zs m numbers) where
  -- a rule whose multiplier is 0 is left out
  pub collected_skip : get_or zs m (pos 0) ≡ pos 0 → Collected zs (suc m) numbers
  collected_skip e = record {
    few = omega (arith, c.few);
    below = λ j l. omega (arith, c.below j l);
    whole = λ f h. c.whole f h ∙ sym (ap (λ x. sum_to f m +ℤ x) (h m e) ∙ +ℤ_idr (sum_to f m));
  }

  -- any other is added at the end
  pub collected_more : Collected zs (suc m) (numbers ++ m ∷ [])
  collected_more =
      let long = length-append numbers (m ∷ []) in
      let other : (j : ℕ) → j < length numbers → get_or (numbers ++ m ∷ []) j 0 ≡ get_or numbers j 0 = λ j l. get_or-append numbers (m ∷ []) 0 j l in
      let here : get_or (numbers ++ m ∷ []) (length numbers) 0 ≡ m = get_or-append_seam numbers m [] 0 in
      record {
        few = omega (arith, long, c.few);
        below = λ j l. below_more (λ i. get_or (numbers ++ m ∷ []) i 0 < suc m) (length numbers) (λ i h. omega (arith, other i h, c.below i h)) (omega (arith, here)) j (omega (arith, long, l));
        whole = λ f h.
            ap (sum_to (λ j. f (get_or (numbers ++ m ∷ []) j 0))) (long ∙ add-one (length numbers))
            ∙ ap₂ ◌+ℤ◌ (sum_agree (λ j. f (get_or (numbers ++ m ∷ []) j 0)) (λ j. f (get_or numbers j 0)) (length numbers) (λ j i. ap f (other j i)) ∙ c.whole f h) (ap f here);
      }

-- so it is for the rules whose multiplier is not 0
pub collected : (zs : List ℤ) (m : ℕ) → Collected zs m (counting_below zs m)
collected zs zero = record { few = omega arith; below = λ j l. absurd (omega (arith, l)); whole = λ f h. refl }
collected zs (suc m) = by (collected zs m) (counts (get_or zs m (pos 0))) refl
  where
    by : Collected zs m (counting_below zs m) → (b : Bool) → counts (get_or zs m (pos 0)) ≡ b → Collected zs (suc m) (cond b (counting_below zs m ++ m ∷ []) (counting_below zs m))
    by c true e = collected_more zs m (counting_below zs m) c
    by c false e = collected_skip zs m (counting_below zs m) c (not_counts (get_or zs m (pos 0)) e)

module _ (us : List Rule) (zs : List ℤ) (numbers : List ℕ) (asked : Priceable us zs) (counted : numbers ≡ counting zs) where
  abbrev c : Collected zs (length zs) numbers
  c = subst (Collected zs (length zs)) (sym counted) (collected zs (length zs))

  -- the number of one of them is that of a multiplier, and so of a rule
  pub active_there : (j : ℕ) → j < length numbers → get_or numbers j 0 < length zs
  active_there = c.below

  pub active_below : (j : ℕ) → j < length numbers → get_or numbers j 0 < length us
  active_below j l = omega (arith, active_there j l, fair_length us zs asked.fair)

  -- an arc's price is made by these rules alone
  pub active_price : (x : Arc) → pos (1000 * x.minutes) +ℤ sum_to (λ j. worth_of us zs x.place x.route (get_or numbers j 0)) (length numbers) ≡ arc_price us zs x
  active_price x =
      let e = fair_length us zs asked.fair in
      ap (λ y. pos (1000 * x.minutes) +ℤ y) (
      c.whole (worth_of us zs x.place x.route) (λ r h. ap (λ y. y *ℤ (get_or us r no_rule).weight x.place x.route) h ∙ zero-*ℤ ((get_or us r no_rule).weight x.place x.route))
      ∙ ap (sum_to (worth_of us zs x.place x.route)) e
      ∙ sym (worth_sum us zs x.place x.route e))

  -- as far as the first j of them make it, it is small, and so is the next one's part
  pub active_part_size : InRange us → (x : Arc) → Gridded x → (j : ℕ) → j < length numbers → nat_abs (worth_of us zs x.place x.route (get_or numbers j 0)) ≤ 10_000_000_000_000
  active_part_size range x fit j l =
      worth_of_size us zs range asked.fair x.place x.route (get_or numbers j 0) fit.placed (active_below j l)

  pub active_front_size : InRange us → (x : Arc) → Gridded x → (j : ℕ) → j ≤ length numbers → nat_abs (pos (1000 * x.minutes) +ℤ sum_to (λ i. worth_of us zs x.place x.route (get_or numbers i 0)) j) ≤ 1_300_000_000_000_000
  active_front_size range x fit j l =
      let all = sum_size (λ i. worth_of us zs x.place x.route (get_or numbers i 0)) 10_000_000_000_000 j (λ i h. active_part_size range x fit i (omega arith)) in
      omega (arith, add_size (pos (1000 * x.minutes)) (sum_to (λ i. worth_of us zs x.place x.route (get_or numbers i 0)) j), all, fit.short, c.few, asked.few, fair_length us zs asked.fair)

  -- and so is the limits' share
  pub active_share : sum_to (λ j. owed_of us zs (get_or numbers j 0)) (length numbers) ≡ owed us zs
  active_share =
      let e = fair_length us zs asked.fair in
      c.whole (owed_of us zs) (λ r h. ap (λ y. neg_ℤ (y *ℤ (get_or us r no_rule).limit)) h ∙ ap neg_ℤ (zero-*ℤ (get_or us r no_rule).limit))
      ∙ ap (sum_to (owed_of us zs)) e
      ∙ sym (owed_sum us zs e)

  pub active_owed_size : InRange us → (j : ℕ) → j < length numbers → nat_abs (owed_of us zs (get_or numbers j 0)) ≤ 1_000_000_000_000_000
  active_owed_size range j l = owed_of_size us zs range asked.fair (get_or numbers j 0) (active_below j l)

  pub active_share_size : InRange us → (j : ℕ) → j ≤ length numbers → nat_abs (sum_to (λ i. owed_of us zs (get_or numbers i 0)) j) ≤ 128_000_000_000_000_000
  active_share_size range j l =
      let all = sum_size (λ i. owed_of us zs (get_or numbers i 0)) 1_000_000_000_000_000 j (λ i h. active_owed_size range i (omega arith)) in
      omega (arith, all, c.few, asked.few, fair_length us zs asked.fair)
