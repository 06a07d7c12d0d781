-- What the items of a form mean. Assumes nothing.
use Rattle.std.proofs.Common.{◌≡◌, ℕ, ◌<◌, ◌≤◌, Bool, true, false, cond, ◌&&◌, ◌||◌, eqb, leb, ◌≢◌, ◌⊎◌, List, [], ◌∷◌, length, get_or, set, replicate, ℤ, pos, sym, refl, ap, ◌∙◌, inl, inr, arith, length-set}
use mathlib.Core.Bool.{or-false}
use lib.ListN.{length-replicate}
use Rattle.std.proofs.lemmas.List.{get_or-set_same, get_or-set_other, get_or-replicate}
use Rattle.std.proofs.lemmas.Bool.{cases_eq, or_parts, and_parts, not-false, ltb-false, leb-true, le-leb, eq-eqb, ne_eqb, and_right, and_left}
use Rattle.terms.specs.Routes.{in_set, with_route}
use Rattle.terms.proofs.Members.{in_with, none_past}
use Rattle.rules.specs.Rules.{on_grid}
use Rattle.rules.specs.Makes.{clipped}
use Rattle.std.specs.List.{list_any}
use Rattle.unsealed.specs.Items.{no_route, gathered, place_outside, route_outside, entry_of, stored, last_weight}
use Rattle.unsealed.specs.Meanings.{ItemsMean}

-- one of three, in another order
turned : (x y z : Bool) → (x || (y || z)) ≡ ((y || x) || z)
turned true true z = refl
turned true false z = refl
turned false true z = refl
turned false false z = refl

-- a set with a route put in
in_more : (bits r q : ℕ) → no_route r ≡ false → in_set (with_route bits r) q ≡ (eqb q r || in_set bits q)
in_more bits r q e = rw (le-leb r 63 (ltb-false 63 r e)) (in_with bits r q)

-- a set with the routes of a list put in
in_gathered : (bits : ℕ) (qs : List ℕ) → list_any no_route qs ≡ false → (q : ℕ) → in_set (gathered bits qs) q ≡ (list_any (eqb q) qs || in_set bits q)
in_gathered bits [] e q = refl
in_gathered bits (r ∷ qs) e q =
    let parts = or_parts (no_route r) (list_any no_route qs) e in
    in_gathered (with_route bits r) qs parts.1 q
    ∙ ap (λ (b : Bool). list_any (eqb q) qs || b) (in_more bits r q parts.0)
    ∙ turned (list_any (eqb q) qs) (eqb q r) (in_set bits q)

-- the empty set has none
in_none : (q : ℕ) → in_set 0 q ≡ false
in_none q = none_past 0 0 q (omega arith) (omega arith)

-- on the grid
record Placed (place route : ℕ) : Type 0 where
  low : 1 ≤ place
  high : place ≤ 32
  small : route ≤ 63

-- each place and route has an entry of its own
own_entry : (a b place route : ℕ) → Placed a b → Placed place route → entry_of a b ≡ entry_of place route → (a ≡ place) × (b ≡ route)
own_entry a b place route g h e = (omega (arith, e, g.low, g.small, h.low, h.small), omega (arith, e, g.low, g.small, h.low, h.small))

-- what an entry written into a table changes
abbrev Writes : List ℤ → ℕ × ℕ × ℤ → ℕ → ℕ → Type 0
Writes table x place route = get_or (set table (entry_of x.0 x.1) x.2) (entry_of place route) (pos 0) ≡ cond (eqb x.0 place && eqb x.1 route) x.2 (get_or table (entry_of place route) (pos 0))

-- one entry more
one_entry : (table : List ℤ) (x : ℕ × ℕ × ℤ) (place route : ℕ) → length table ≡ 2048 → Placed x.0 x.1 → Placed place route → Writes table x place route
one_entry table x place route long g h = go (cases_eq x.0 place) (cases_eq x.1 route)
  where
    other : (x.0 ≡ place → x.1 ≡ route → ⊥) → (eqb x.0 place && eqb x.1 route) ≡ false → Writes table x place route
    other ne e =
        let far : entry_of place route ≢ entry_of x.0 x.1 = λ s. let o = own_entry x.0 x.1 place route g h (sym s) in ne o.0 o.1 in
        get_or-set_other table (entry_of x.0 x.1) (entry_of place route) x.2 (pos 0) far ∙ rw e

    go : (x.0 ≡ place) ⊎ (x.0 ≡ place → ⊥) → (x.1 ≡ route) ⊎ (x.1 ≡ route → ⊥) → Writes table x place route
    go (inl a) (inl b) =
        let within : entry_of place route < length table = omega (arith, long, h.low, h.high, h.small) in
        rw (a, b, eq-eqb place place refl, eq-eqb route route refl) (get_or-set_same table (entry_of place route) x.2 (pos 0) within)
    go (inl a) (inr b) = other (λ _. b) (and_right _ _ (ne_eqb x.1 route b))
    go (inr a) _ = other (λ s _. a s) (and_left _ _ (ne_eqb x.0 place a))

-- an entry that is not outside is on the grid
entry_placed : (x : ℕ × ℕ × ℤ) → place_outside 32 x ≡ false → route_outside x ≡ false → Placed x.0 x.1
entry_placed x p q =
    let range = and_parts _ _ (not-false _ p) in
    record { low = leb-true 1 x.0 range.0; high = leb-true x.0 32 range.1; small = ltb-false 63 x.1 q }

-- all entries
all_entries : (xs : List (ℕ × ℕ × ℤ)) (table : List ℤ) → length table ≡ 2048 → list_any (place_outside 32) xs ≡ false → list_any route_outside xs ≡ false → (place route : ℕ) → Placed place route
    → get_or (stored table xs) (entry_of place route) (pos 0) ≡ last_weight xs place route (get_or table (entry_of place route) (pos 0))
all_entries [] table long p q place route h = refl
all_entries (x ∷ xs) table long p q place route h =
    let ps = or_parts (place_outside 32 x) (list_any (place_outside 32) xs) p in
    let qs = or_parts (route_outside x) (list_any route_outside xs) q in
    all_entries xs (set table (entry_of x.0 x.1) x.2) (length-set table (entry_of x.0 x.1) x.2 ∙ long) ps.1 qs.1 place route h
    ∙ ap (λ (w : ℤ). last_weight xs place route w) (one_entry table x place route long (entry_placed x ps.0 qs.0) h)

-- what is on the grid
grid : (place route : ℕ) → on_grid place route ≡ true → Placed place route
grid place route e =
    let a = and_parts (leb 1 place && leb place 32) (leb route 63) e in
    let b = and_parts (leb 1 place) (leb place 32) a.0 in
    record { low = leb-true 1 place b.0; high = leb-true place 32 b.1; small = leb-true route 63 a.1 }

pub items_mean : ItemsMean
items_mean = record {
  routes = λ qs e q. in_gathered 0 qs e q ∙ ap (λ (b : Bool). list_any (eqb q) qs || b) (in_none q) ∙ or-false (list_any (eqb q) qs);
  weights = λ xs p q limit place route e.
      let h = grid place route e in
      let at = entry_of place route in
      let within : at < 2048 = omega (arith, h.low, h.high, h.small) in
      ap (λ (z : ℤ). clipped 10000 z)
      (all_entries xs (replicate 2048 (pos 0)) (length-replicate 2048 (pos 0)) p q place route h ∙ ap (λ (w : ℤ). last_weight xs place route w) (get_or-replicate 2048 at (pos 0) (pos 0) within));
}
