-- What is on a list of plans: its parts, its images, those that pass a test. Assumes nothing.
use Rattle.std.proofs.Common.{◌≡◌, ℕ, Bool, true, false, cond, ◌⊎◌, List, [], ◌∷◌, ◌++◌, map, sym, refl, ap, ◌∙◌, inl, inr}
use Rattle.std.proofs.lemmas.Bool.{true≢false, cond-true}
use Rattle.plans.specs.Plans.{In}
use Rattle.plans.specs.Cases.{those}

-- what is on a list is on it with more after it
pub in_left : (p : List ℕ) (xs ys : List (List ℕ)) → In p xs → In p (xs ++ ys)
in_left p [] ys m = absurd m
in_left p (x ∷ xs) ys (inl e) = inl e
in_left p (x ∷ xs) ys (inr m) = inr (in_left p xs ys m)

-- what is on a list is on it with more before it
pub in_right : (p : List ℕ) (xs ys : List (List ℕ)) → In p ys → In p (xs ++ ys)
in_right p [] ys m = m
in_right p (x ∷ xs) ys m = inr (in_right p xs ys m)

-- what is on two lists joined is on one of them
pub in_either : (p : List ℕ) (xs ys : List (List ℕ)) → In p (xs ++ ys) → In p xs ⊎ In p ys
in_either p [] ys m = inr m
in_either p (x ∷ xs) ys (inl e) = inl (inl e)
in_either p (x ∷ xs) ys (inr m) = elim (in_either p xs ys m) [ inl k ↦ inl (inr k) | inr k ↦ inr k ]

-- the image of what is on a list is on the list of images
pub in_map : (g : List ℕ → List ℕ) (p : List ℕ) (ps : List (List ℕ)) → In p ps → In (g p) (map g ps)
in_map g p [] m = absurd m
in_map g p (x ∷ xs) (inl e) = inl (ap g e)
in_map g p (x ∷ xs) (inr m) = inr (in_map g p xs m)

-- what is on the list of images is the image of one on the list
pub map_in : (g : List ℕ → List ℕ) (q : List ℕ) (ps : List (List ℕ)) → In q (map g ps) → (p : List ℕ) × ((q ≡ g p) × In p ps)
map_in g q [] m = absurd m
map_in g q (x ∷ xs) (inl e) = (x, (e, inl refl))
map_in g q (x ∷ xs) (inr m) = let r = map_in g q xs m in (r.0, (r.1.0, inr r.1.1))

module _ (f : List ℕ → Bool) where
  first_in : {p q : List ℕ} (b : Bool) (rest : List (List ℕ)) → b ≡ true → p ≡ q → In p (cond b (q ∷ rest) rest)
  first_in true rest h e = inl e
  first_in false rest h e = absurd (true≢false (sym h))

  later_in : (p : List ℕ) (b : Bool) (q : List ℕ) (rest : List (List ℕ)) → In p rest → In p (cond b (q ∷ rest) rest)
  later_in p true q rest m = inr m
  later_in p false q rest m = m

  -- a plan of a list that passes a test is among those that do
  pub those_in : (p : List ℕ) (ps : List (List ℕ)) → f p ≡ true → In p ps → In p (those f ps)
  those_in p [] h m = absurd m
  those_in p (q ∷ qs) h (inl e) = first_in (f q) (those f qs) (ap f (sym e) ∙ h) e
  those_in p (q ∷ qs) h (inr m) = later_in p (f q) q (those f qs) (those_in p qs h m)

  first_out : (p : List ℕ) (b : Bool) (q : List ℕ) (rest : List (List ℕ)) → f q ≡ b → In p (cond b (q ∷ rest) rest) → ((f p ≡ true) × (p ≡ q)) ⊎ In p rest
  first_out p true q rest h (inl e) = inl (ap f e ∙ h, e)
  first_out p true q rest h (inr m) = inr m
  first_out p false q rest h m = inr m

  -- what is among those that pass a test passes it, and is on the list
  pub those_out : (p : List ℕ) (ps : List (List ℕ)) → In p (those f ps) → (f p ≡ true) × In p ps
  those_out p [] m = absurd m
  those_out p (q ∷ qs) m =
      elim (first_out p (f q) q (those f qs) refl m) [
        | inl h ↦ (h.0, inl h.1)
        | inr k ↦ let r = those_out p qs k in (r.0, inr r.1)
      ]

  -- those of two lists joined are those of each, joined
  pub those_append : (xs ys : List (List ℕ)) → those f (xs ++ ys) ≡ those f xs ++ those f ys
  those_append [] ys = refl
  those_append (x ∷ xs) ys = by (f x) (those f (xs ++ ys)) (those f xs) (those_append xs ys)
    where
      by : (b : Bool) (all some : List (List ℕ)) → all ≡ some ++ those f ys → cond b (x ∷ all) all ≡ cond b (x ∷ some) some ++ those f ys
      by true all some e = ap (λ (zs : List (List ℕ)). x ∷ zs) e
      by false all some e = e

  -- where each plan passes, those that pass are all
  pub those_all : (ps : List (List ℕ)) → ((p : List ℕ) → In p ps → f p ≡ true) → those f ps ≡ ps
  those_all [] h = refl
  those_all (p ∷ ps) h =
      cond-true (f p) (p ∷ those f ps) (those f ps) (h p (inl refl)) ∙ ap (λ (zs : List (List ℕ)). p ∷ zs) (those_all ps (λ q m. h q (inr m)))
