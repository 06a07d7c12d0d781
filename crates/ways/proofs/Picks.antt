-- The arcs that attain a joining, for a tally that chooses. Assumes nothing.
use Rattle.std.proofs.Common.{◌≡◌, ℕ, zero, suc, ◌<◌, ◌≤◌, Bool, true, false, cond, ◌&&◌, eqb, ◌⊎◌, List, [], ◌∷◌, ℤ, nat_abs, sym, refl, ap, ◌∙◌, subst, inl, inr, ⊎_elim, arith}
use Rattle.std.specs.List.{AllByRecursion}
use Rattle.std.proofs.ByRecursion.{All-weaker}
use Rattle.std.proofs.lemmas.Bool.{cases_eq, false≢true}
use Rattle.terms.specs.declared.arc.Arc.{Arc}
use Rattle.plans.specs.Arcs.{arc_at}
use Rattle.plans.specs.Cases.{Case}
use Rattle.tallies.specs.Laws.{steep}
use Rattle.ways.specs.Amounts.{joining}
use Rattle.ways.specs.Ways.{takes}
use Rattle.tallies.specs.declared.tally.Tally.{Ghosts}
use Rattle.tallies.specs.declared.heading.Heading.{Ghosts as Directed}
use Rattle.ways.proofs.Sums.{Lawful, so_far, through, one_more}

-- a tally whose joining is always one of the two
abbrev pub Chooses : {X A : Type 0} → Ghosts X A → Type 0
Chooses {X} {A} t = (x y : A) → (t.joins x y ≡ x) ⊎ (t.joins x y ≡ y)

module _ {X A : Type 0} (t : Ghosts X A) (laws : Lawful t) (chooses : Chooses t) where
  idem : (a : A) → t.joins a a ≡ a
  idem a = ⊎_elim (λ e. e) (λ e. e) (chooses a a)

  -- what is joined again changes nothing
  again : (a e : A) → t.joins a (t.joins e a) ≡ t.joins e a
  again a e =
      ap (t.joins a) (laws.comm e a) ∙ sym (laws.assoc a a e) ∙ ap (λ x. t.joins x e) (idem a) ∙ laws.comm a e

  -- a joining takes in each element of its list
  taken_in : (a b j : A) → t.joins b j ≡ j → t.joins b (t.joins a j) ≡ t.joins a j
  taken_in a b j e =
      sym (laws.assoc b a j) ∙ ap (λ x. t.joins x j) (laws.comm b a) ∙ laws.assoc a b j ∙ ap (t.joins a) e

  pub each_taken : (xs : List A) → AllByRecursion (λ a. t.joins a (joining t xs) ≡ joining t xs) xs
  each_taken [] = tt
  each_taken (a ∷ xs) =
      (sym (laws.assoc a a (joining t xs)) ∙ ap (λ x. t.joins x (joining t xs)) (idem a), All-weaker (λ b. t.joins b (joining t xs) ≡ joining t xs) (λ b. t.joins b (t.joins a (joining t xs)) ≡ t.joins a (joining t xs)) (λ b e. taken_in a b (joining t xs) e) xs (each_taken xs))

  module _ {Y : Type 0} (h : Directed Y) (n : ℕ) (arcs : List Arc) (s : Case) (price : ℕ → ℤ) (small : (a : ℕ) → nat_abs (price a) ≤ steep) (k v : ℕ) (few : k < 32) where
    -- arc i brings an amount to node v
    abbrev pub brings : ℕ → Bool
    brings i = takes h n arcs s k i && eqb (h.far (arc_at arcs i)) v

    abbrev whole : ℕ → A
    whole m = so_far t h n arcs s price k v m

    abbrev part : ℕ → A
    part i = through t h n arcs s price k i

    abbrev grown : ℕ → Bool → A
    grown m b = cond b (t.joins (whole m) (part m)) (whole m)

    kept : (b : Bool) (a : A) (m : ℕ) → t.joins a (whole m) ≡ whole m → t.joins a (grown m b) ≡ grown m b
    kept true a m e = sym (laws.assoc a (whole m) (part m)) ∙ ap (λ y. t.joins y (part m)) e
    kept false a m e = e

    new : (b : Bool) (m : ℕ) → b ≡ true → t.joins (part m) (grown m b) ≡ grown m b
    new true m e = again (part m) (whole m)
    new false m e = absurd (false≢true e)

    -- a joining takes in each of its parts
    pub absorbed : (i : ℕ) → brings i ≡ true → (m : ℕ) → i < m → t.joins (part i) (whole m) ≡ whole m
    absorbed i e zero l = absurd (omega arith)
    absorbed i e (suc m) l =
        rw (one_more t laws h n arcs s price small k v m few) (⊎_elim (λ (q : i ≡ m). subst (λ x. t.joins (part x) (grown m (brings m)) ≡ grown m (brings m)) (sym q) (new (brings m) m (subst (λ x. brings x ≡ true) q e))) (λ (q : i ≡ m → ⊥). kept (brings m) (part i) m (absorbed i e m (omega arith))) (cases_eq i m))

    -- one of its parts is the joining
    abbrev pub Part : ℕ → A → Type 0
    Part m a = (i : ℕ) × ((i < m) × ((brings i ≡ true) × (part i ≡ a)))

    wider : (m : ℕ) (a b : A) → a ≡ b → Part m a → Part (suc m) b
    wider m a b e (i, (l, (y, x))) = (i, (omega arith, (y, x ∙ e)))

    part_step : (m : ℕ) (b : Bool) → brings m ≡ b → (whole m ≡ t.nothing) ⊎ Part m (whole m) → (grown m b ≡ t.nothing) ⊎ Part (suc m) (grown m b)
    part_step m false e old = ⊎_elim inl (λ p. inr (wider m _ _ refl p)) old
    part_step m true e old =
        ⊎_elim (λ (q : t.joins (whole m) (part m) ≡ whole m). ⊎_elim (λ z. inl (q ∙ z)) (λ p. inr (wider m _ _ (sym q) p)) old) (λ (q : t.joins (whole m) (part m) ≡ part m). inr (m, (omega arith, (e, sym q)))) (chooses (whole m) (part m))

    -- a joining that is not "no plan" is one of its parts
    pub some_part : (m : ℕ) → (whole m ≡ t.nothing) ⊎ Part m (whole m)
    some_part zero = inl refl
    some_part (suc m) =
        subst (λ a. (a ≡ t.nothing) ⊎ Part (suc m) a) (sym (one_more t laws h n arcs s price small k v m few)) (part_step m (brings m) refl (some_part m))
