-- Multipliers that pairs name, one after another. Assumes nothing.
use Rattle.std.proofs.Common.{◌≡◌, ℕ, ◌<◌, ◌≤◌, min, Bool, cond, drop, List, ◌∷◌, length, take, set, replicate, ℤ, pos, Some, None, Option, sym, ap, ◌∙◌, ap₂, inl, inr, arith, length-set}
use Rattle.std.proofs.lemmas.List.{take_all, take-append-le, take-replicate}
use Rattle.std.proofs.lemmas.Bool.{cases_Bool, cases_lt, lt-ltb, le-ltb, lt-leb, le-leb}
use Rattle.terms.specs.declared.refusal.Refusal.{Refusal}
use Rattle.terms.specs.declared.refusal.Refusal.TheVariants.{TooManyRules, MultiplierCount}
use Rattle.terms.specs.Refusals.{when, or_else}
use Rattle.std.specs.List.{list_any, refill}
use Rattle.dossiers.specs.Namings.{naming, named, unknown, naming_causes}

-- a vector of multipliers, with one written through its slice
pub written : (zs now : List ℤ) (i : ℕ) (z y : ℤ) → now ≡ zs → y ≡ z → refill (length zs) zs (set now i y) ≡ set zs i z
written zs now i z y e f = whole (set now i y) (length-set now i y ∙ ap length e) ∙ ap₂ (λ l x. set l i x) e f
  where
    whole : (ws : List ℤ) → length ws ≡ length zs → refill (length zs) zs ws ≡ ws
    whole ws h = take-append-le (length zs) ws (drop (length ws) zs) (omega arith) ∙ take_all (length zs) ws (omega arith)

-- the multipliers zs with those named that are left, unless one is for none of n rules
abbrev pub named_from : ℕ → List ℤ → List (ℕ × ℤ) → Option (List ℤ)
named_from n zs xs = cond (list_any (unknown n) xs) None (Some (naming zs xs))

-- one pair more
pub name_next : (n : ℕ) (x : ℕ × ℤ) (zs : List ℤ) {after : List ℤ} → x.0 < n → after ≡ set zs x.0 x.1 → (xs : List (ℕ × ℤ)) → named_from n zs (x ∷ xs) ≡ named_from n after xs
name_next n x zs h e xs = rw (lt-leb n x.0 h, e)

-- a pair for no rule
pub name_none : (n : ℕ) (x : ℕ × ℤ) (zs : List ℤ) → n ≤ x.0 → (xs : List (ℕ × ℤ)) → named_from n zs (x ∷ xs) ≡ None
name_none n x zs h xs = rw (le-leb n x.0 h)

-- a pair for no rule is refused
pub none_named : (n : ℕ) (zs : List ℤ) (xs : List (ℕ × ℤ)) → n ≤ 128 → None ≡ named_from n zs xs → naming_causes n xs ≡ Some MultiplierCount
none_named n zs xs h e =
    elim (cases_Bool (list_any (unknown n) xs)) [
      | inl b ↦ rw (le-ltb 128 n h, b)
      | inr b ↦ let f = rw b at e in absurd (never f)
    ]
  where
    never : {ys : List ℤ} → ◌≡◌ {A = Option (List ℤ)} None (Some ys) → ⊥
    never p = cc

-- the first n of 128 zeros with the pairs named are the multipliers named for n rules
pub all_named : (n : ℕ) (zs ys : List ℤ) (xs : List (ℕ × ℤ)) → n ≤ 128 → zs ≡ take n (replicate 128 (pos 0)) → Some ys ≡ named_from n zs xs → (naming_causes n xs ≡ None) × (ys ≡ named n xs)
all_named n zs ys xs h z e =
    elim (cases_Bool (list_any (unknown n) xs)) [
      | inl b ↦ let f = rw b at e in absurd (never f)
      | inr b ↦
          let f = rw b at e in
          let g : ys ≡ naming zs xs = cc (f) in
          (rw (le-ltb 128 n h, b), g ∙ ap (λ (l : List ℤ). naming l xs) (z ∙ take-replicate n 128 (pos 0) h))
    ]
  where
    never : {ys : List ℤ} → ◌≡◌ {A = Option (List ℤ)} (Some ys) None → ⊥
    never p = cc

-- a bank answers its count up to 129, and the rows are the same
pub capped_causes : (n : ℕ) (xs : List (ℕ × ℤ)) → naming_causes (min n 129) xs ≡ naming_causes n xs
capped_causes n xs =
    elim (cases_lt 128 n) [
      | inl h ↦ rw (lt-ltb 128 n h, lt-ltb 128 (min n 129) (omega arith))
      | inr h ↦ let e : min n 129 ≡ n = omega arith in rw e
    ]

-- where no row refuses, the bank's count is the number of rules
pub few_rules : (n : ℕ) (xs : List (ℕ × ℤ)) → naming_causes n xs ≡ None → min n 129 ≡ n
few_rules n xs e =
    elim (cases_lt 128 n) [
      | inl h ↦ absurd (some_none (ap (λ (b : Bool). or_else (when b TooManyRules) (or_else (when (list_any (unknown n) xs) MultiplierCount) None)) (sym (lt-ltb 128 n h)) ∙ e))
      | inr h ↦ omega arith
    ]
  where
    some_none : {e : Refusal} → ◌≡◌ {A = Option Refusal} (Some e) None → ⊥
    some_none p = let z : ◌≡◌ {A = ℕ} 0 1 = cc in omega arith
