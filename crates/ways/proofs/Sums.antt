-- What the laws of a tally give of the joinings over the ways of a sweep. Assumes nothing.
use Rattle.std.proofs.Common.{◌≡◌, ℕ, zero, suc, ◌+◌, ◌*◌, ◌<◌, ◌≤◌, Bool, true, false, cond, ◌&&◌, eqb, List, [], ◌∷◌, ◌++◌, map, length, ℤ, nat_abs, sym, refl, ap, ◌∙◌, arith}
use Rattle.std.specs.List.{AllByRecursion}
use Rattle.std.proofs.lemmas.List.{map-append}
use Rattle.std.proofs.ByRecursion.{All-append, All-map}
use Rattle.std.proofs.lemmas.Bool.{eq-eqb, false≢true}
use Rattle.terms.specs.declared.arc.Arc.{Arc}
use Rattle.plans.specs.Arcs.{arc_at}
use Rattle.plans.specs.Cases.{Case}
use Rattle.tallies.specs.Laws.{TallyLaws, wide, slight, steep}
use Rattle.ways.specs.Amounts.{along_back, joining}
use Rattle.ways.specs.Ways.{takes, gathered, ways, way_amount}
use Rattle.tallies.specs.declared.tally.Tally.{Ghosts}
use Rattle.tallies.specs.declared.heading.Heading.{Ghosts as Directed}

-- the largest size of an amount of k arcs
abbrev pub bound : ℕ → ℕ
bound k = slight + k * steep

-- the joining over the ways to node v by one of the arcs below i that step k takes
abbrev pub so_far : {X A Y : Type 0} → Ghosts X A → Directed Y → ℕ → List Arc → Case → (ℕ → ℤ) → ℕ → ℕ → ℕ → A
so_far t h n arcs s price k v i = joining t (map (along_back t price) (gathered h n arcs s (ways h n arcs s k) k v i))

-- the amount that arc i brings at step k
abbrev pub through : {X A Y : Type 0} → Ghosts X A → Directed Y → ℕ → List Arc → Case → (ℕ → ℤ) → ℕ → ℕ → A
through t h n arcs s price k i = t.extends (way_amount t h n arcs s price k (h.near (arc_at arcs i))) (price i)

-- the laws of a tally
abbrev pub Lawful : {X A : Type 0} → Ghosts X A → Type 0
Lawful t = TallyLaws t.nothing t.start t.joins t.extends t.size

module _ {X A : Type 0} (t : Ghosts X A) (laws : Lawful t) where
  pub neutral_right : (a : A) → t.joins a t.nothing ≡ a
  neutral_right a = laws.comm a t.nothing ∙ laws.neutral a

  pub joining_append : (xs ys : List A) → joining t (xs ++ ys) ≡ t.joins (joining t xs) (joining t ys)
  joining_append [] ys = sym (laws.neutral (joining t ys))
  joining_append (a ∷ xs) ys = ap (t.joins a) (joining_append xs ys) ∙ sym (laws.assoc a (joining t xs) (joining t ys))

  pub joining_small : (b : ℕ) → slight ≤ b → (xs : List A) → AllByRecursion (λ a. t.size a ≤ b) xs → t.size (joining t xs) ≤ b
  joining_small b h [] _ = omega (arith, laws.nothing_small)
  joining_small b h (a ∷ xs) (s, rest) = omega (arith, joining_small b h xs rest, laws.joins_small a (joining t xs))

  -- an extension goes over a whole list
  pub extends_joining : (p : ℤ) → nat_abs p < wide → (b : ℕ) → slight ≤ b → b < wide → (xs : List A) → AllByRecursion (λ a. t.size a ≤ b) xs → t.extends (joining t xs) p ≡ joining t (map (λ a. t.extends a p) xs)
  extends_joining p hp b h w [] _ = laws.absorbs p hp
  extends_joining p hp b h w (a ∷ xs) (s, rest) =
      laws.distributes a (joining t xs) p (omega arith) (omega (arith, joining_small b h xs rest)) hp ∙ ap (t.joins (t.extends a p)) (extends_joining p hp b h w xs rest)

  module _ {Y : Type 0} (h : Directed Y) (n : ℕ) (arcs : List Arc) (s : Case) (price : ℕ → ℤ) (small : (a : ℕ) → nat_abs (price a) ≤ steep) where
    -- no way of k steps has an amount larger than the bound
    abbrev Fine : ℕ → List (List ℕ) → Type 0
    Fine k ps = AllByRecursion (λ p. t.size (along_back t price p) ≤ bound k) ps

    longer_fine : (k i : ℕ) → k < 32 → (ps : List (List ℕ)) → Fine k ps → Fine (suc k) (map (λ p. i ∷ p) ps)
    longer_fine k i l [] _ = tt
    longer_fine k i l (p ∷ ps) (z, rest) =
        (omega (arith, small i, laws.extends_small (along_back t price p) (price i) (omega arith) (omega (arith, small i))), longer_fine k i l ps rest)

    gathered_fine : (k v : ℕ) → k < 32 → (before : ℕ → List (List ℕ)) → ((u : ℕ) → Fine k (before u)) → (i : ℕ) → Fine (suc k) (gathered h n arcs s before k v i)
    gathered_fine k v l before fine zero = tt
    gathered_fine k v l before fine (suc i) =
        All-append (λ p. t.size (along_back t price p) ≤ bound (suc k)) (gathered h n arcs s before k v i) _ (gathered_fine k v l before fine i) (chosen (takes h n arcs s k i && eqb (h.far (arc_at arcs i)) v))
      where
        chosen : (b : Bool) → Fine (suc k) (cond b (map (λ p. i ∷ p) (before (h.near (arc_at arcs i)))) [])
        chosen true = longer_fine k i l (before (h.near (arc_at arcs i))) (fine (h.near (arc_at arcs i)))
        chosen false = tt

    pub ways_fine : (k v : ℕ) → k ≤ 32 → AllByRecursion (λ p. t.size (along_back t price p) ≤ bound k) (ways h n arcs s k v)
    ways_fine zero v l = root (eqb v 0)
      where
        root : (b : Bool) → Fine 0 (cond b ([] ∷ []) [])
        root true = (omega (arith, laws.start_small), tt)
        root false = tt
    ways_fine (suc k) v l = gathered_fine k v l (ways h n arcs s k) (λ u. ways_fine k u (omega arith)) (length arcs)

    -- the amounts of a list of ways
    amounts_fine : (k : ℕ) (ps : List (List ℕ)) → Fine k ps → AllByRecursion (λ a. t.size a ≤ bound k) (map (along_back t price) ps)
    amounts_fine k ps z = All-map (λ a. t.size a ≤ bound k) (along_back t price) ps z

    -- no joining over the ways of k steps is larger than the bound
    pub way_small : (k v : ℕ) → k ≤ 32 → t.size (way_amount t h n arcs s price k v) ≤ bound k
    way_small k v l =
        joining_small (bound k) (omega arith) (map (along_back t price) (ways h n arcs s k v)) (amounts_fine k (ways h n arcs s k v) (ways_fine k v l))

    pub way_narrow : (k v : ℕ) → k ≤ 32 → t.size (way_amount t h n arcs s price k v) < wide
    way_narrow k v l = omega (arith, way_small k v l)

    -- one arc more for each way
    longer_amounts : (i : ℕ) (ps : List (List ℕ)) → map (along_back t price) (map (λ p. i ∷ p) ps) ≡ map (λ a. t.extends a (price i)) (map (along_back t price) ps)
    longer_amounts i [] = refl
    longer_amounts i (p ∷ ps) = ap (λ xs. t.extends (along_back t price p) (price i) ∷ xs) (longer_amounts i ps)

    longer_joining : (k i : ℕ) → k < 32 → (ps : List (List ℕ)) → Fine k ps → joining t (map (along_back t price) (map (λ p. i ∷ p) ps)) ≡ t.extends (joining t (map (along_back t price) ps)) (price i)
    longer_joining k i l ps fine =
        ap (joining t) (longer_amounts i ps) ∙ sym (extends_joining (price i) (omega (arith, small i)) (bound k) (omega arith) (omega arith) (map (along_back t price) ps) (amounts_fine k ps fine))

    -- what one arc more does
    pub one_more : (k v i : ℕ) → k < 32 → so_far t h n arcs s price k v (suc i) ≡ cond (takes h n arcs s k i && eqb (h.far (arc_at arcs i)) v) (t.joins (so_far t h n arcs s price k v i) (through t h n arcs s price k i)) (so_far t h n arcs s price k v i)
    one_more k v i l =
        ap (joining t) (map-append (along_back t price) (gathered h n arcs s (ways h n arcs s k) k v i) _) ∙ joining_append (map (along_back t price) (gathered h n arcs s (ways h n arcs s k) k v i)) _ ∙ chosen (takes h n arcs s k i && eqb (h.far (arc_at arcs i)) v)
      where
        chosen : (b : Bool) → t.joins (so_far t h n arcs s price k v i) (joining t (map (along_back t price) (cond b (map (λ p. i ∷ p) (ways h n arcs s k (h.near (arc_at arcs i)))) []))) ≡ cond b (t.joins (so_far t h n arcs s price k v i) (through t h n arcs s price k i)) (so_far t h n arcs s price k v i)
        chosen true = ap (t.joins (so_far t h n arcs s price k v i)) (longer_joining k i l (ways h n arcs s k (h.near (arc_at arcs i))) (ways_fine k (h.near (arc_at arcs i)) (omega arith)))
        chosen false = neutral_right (so_far t h n arcs s price k v i)

    pub one_taken : (k v i : ℕ) → k < 32 → takes h n arcs s k i ≡ true → h.far (arc_at arcs i) ≡ v → so_far t h n arcs s price k v (suc i) ≡ t.joins (so_far t h n arcs s price k v i) (through t h n arcs s price k i)
    one_taken k v i l e f = one_more k v i l ∙ at (takes h n arcs s k i) (eqb (h.far (arc_at arcs i)) v) e (eq-eqb _ _ f)
      where
        at : (b d : Bool) → b ≡ true → d ≡ true → cond (b && d) (t.joins (so_far t h n arcs s price k v i) (through t h n arcs s price k i)) (so_far t h n arcs s price k v i) ≡ t.joins (so_far t h n arcs s price k v i) (through t h n arcs s price k i)
        at true true _ _ = refl
        at true false _ z = absurd (false≢true z)
        at false d z _ = absurd (false≢true z)

    pub one_left : (k v i : ℕ) → k < 32 → (takes h n arcs s k i && eqb (h.far (arc_at arcs i)) v) ≡ false → so_far t h n arcs s price k v (suc i) ≡ so_far t h n arcs s price k v i
    one_left k v i l e = one_more k v i l ∙ ap (λ b. cond b (t.joins (so_far t h n arcs s price k v i) (through t h n arcs s price k i)) (so_far t h n arcs s price k v i)) e
