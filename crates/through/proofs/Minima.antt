-- The least of a list of sums, and the cheapest plan where each amount has the same share more. Assumes nothing.
use Rattle.std.proofs.Common.{◌≡◌, ℕ, true, false, cond, List, [], ◌∷◌, ◌++◌, map, ℤ, pos, ◌+ℤ◌, Some, None, fold, Option, sym, refl, ap, ◌∙◌, arith}
use lib.IntN.{+ℤ_idl, +ℤ_idr, +ℤ_assoc}
use lib.Signed.{lt_z}
use Rattle.std.proofs.lemmas.Int.{ints}
use Rattle.plans.specs.Plans.{In}
use Rattle.plans.specs.Firsts.{lesser, cheapest, amount_in}
use Rattle.plans.proofs.Standing.{cheapest_in}
use Rattle.tallies.specs.Kinds.{least_join, least_extend}
use Rattle.ways.specs.Amounts.{along, along_back, joining}
use Rattle.ways.specs.Sums.{price_sum, leasts}
use Rattle.ways.proofs.Firsts.{least_along}
use Rattle.ways.proofs.Minutes.{cheapest_same}

module _ (price : ℕ → ℤ) where
  -- the sum of two parts
  pub sum_join : (p q : List ℕ) → price_sum price (p ++ q) ≡ price_sum price p +ℤ price_sum price q
  sum_join [] q = sym (+ℤ_idl (price_sum price q))
  sum_join (a ∷ p) q =
      ap (λ x. price a +ℤ x) (sum_join p q) ∙ sym (+ℤ_assoc (price a) (price_sum price p) (price_sum price q))

  -- extended from an amount on
  along_onto : (z : ℤ) (p : List ℕ) → fold (λ x a. least_extend x (price a)) (Some z) p ≡ Some (z +ℤ price_sum price p)
  along_onto z [] = ap Some (sym (+ℤ_idr z))
  along_onto z (a ∷ p) = along_onto (z +ℤ price a) p ∙ ap Some (+ℤ_assoc z (price a) (price_sum price p))

  -- the amount of a partial plan from the root is the sum of its prices
  pub along_sum : (p : List ℕ) → along leasts price p ≡ Some (price_sum price p)
  along_sum p = along_onto (pos 0) p ∙ ap Some (+ℤ_idl (price_sum price p))

  -- one more plan
  joined_one : (p : List ℕ) (o : Option (List ℕ)) → least_join (Some (price_sum price p)) (amount_in (price_sum price) o) ≡ Some (price_sum price (lesser (price_sum price) p o))
  joined_one p None = refl
  joined_one p (Some q) =
      elim (lt_z (price_sum price q) (price_sum price p)) as (λ b. cond b (Some (price_sum price q)) (Some (price_sum price p)) ≡ Some (price_sum price (cond b q p))) [ true ↦ refl | false ↦ refl ]

  -- the joining over a list of partial plans is the sum of the cheapest
  least_joined : (h : List ℕ → Option ℤ) → ((p : List ℕ) → h p ≡ Some (price_sum price p)) → (ps : List (List ℕ)) → joining leasts (map h ps) ≡ amount_in (price_sum price) (cheapest (price_sum price) ps)
  least_joined h e [] = refl
  least_joined h e (p ∷ ps) =
      ap (λ (o : Option ℤ). least_join o (joining leasts (map h ps))) (e p)
      ∙ ap (least_join (Some (price_sum price p))) (least_joined h e ps)
      ∙ joined_one p (cheapest (price_sum price) ps)

  -- so for both directions
  pub forward_joined : (ps : List (List ℕ)) → joining leasts (map (along leasts price) ps) ≡ amount_in (price_sum price) (cheapest (price_sum price) ps)
  forward_joined ps = least_joined (along leasts price) along_sum ps

  pub backward_joined : (ps : List (List ℕ)) → joining leasts (map (along_back leasts price) ps) ≡ amount_in (price_sum price) (cheapest (price_sum price) ps)
  backward_joined ps = least_joined (along_back leasts price) (least_along price) ps

-- the same added on both sides
same_less : (x y z : ℤ) → lt_z y x ≡ lt_z (y +ℤ z) (x +ℤ z)
same_less x y z = grind (arith, ints)

module _ (f h : List ℕ → ℤ) (z : ℤ) where
  -- of two plans the same one is the cheaper
  lesser_shift : (p : List ℕ) (o : Option (List ℕ)) → lesser f p o ≡ lesser (λ q. f q +ℤ z) p o
  lesser_shift p None = refl
  lesser_shift p (Some q) = ap (λ b. cond b q p) (same_less (f p) (f q) z)

  -- and so of many
  cheapest_more : (ps : List (List ℕ)) → cheapest f ps ≡ cheapest (λ q. f q +ℤ z) ps
  cheapest_more [] = refl
  cheapest_more (p ∷ ps) = ap Some (ap (lesser f p) (cheapest_more ps) ∙ lesser_shift p (cheapest (λ q. f q +ℤ z) ps))

  module _ (ps : List (List ℕ)) (same : (p : List ℕ) → In p ps → h p ≡ f p +ℤ z) where
    -- the same plan is the cheapest, with the share or without
    pub cheapest_shift : cheapest f ps ≡ cheapest h ps
    cheapest_shift = cheapest_more ps ∙ sym (cheapest_same h (λ q. f q +ℤ z) ps same)

    -- the amount of a plan with the share
    amount_more : (o : Option (List ℕ)) → ((p : List ℕ) → o ≡ Some p → h p ≡ f p +ℤ z) → least_extend (amount_in f o) z ≡ amount_in h o
    amount_more None e = refl
    amount_more (Some p) e = ap Some (sym (e p refl))

    -- and the share enters its amount once
    pub amount_shift : least_extend (amount_in f (cheapest f ps)) z ≡ amount_in h (cheapest h ps)
    amount_shift =
        ap (λ (o : Option (List ℕ)). least_extend (amount_in f o) z) cheapest_shift
        ∙ amount_more (cheapest h ps) (λ p e. same p (cheapest_in h p ps e))
