-- The first arcs of an offer, kept in a table. Assumes nothing.
use Rattle.std.proofs.Common.{◌≡◌, ℕ, ◌≤◌, List, [], ◌∷◌, ◌++◌, length, take, sym, ap, ◌∙◌, append_assoc, arith}
use Rattle.std.proofs.lemmas.List.{append-nil, take_all, take-append-le}

-- no arc is left
pub keep_end : (n : ℕ) (kept arcs : List ℕ) → length kept ≤ n → take n (kept ++ []) ≡ take n arcs → kept ≡ take n arcs
keep_end n kept arcs h e = sym (ap (λ (l : List ℕ). take n l) (append-nil kept) ∙ take_all n kept h) ∙ e

-- one arc more was kept, as there is room
pub keep_next : (n : ℕ) (kept after : List ℕ) (arc : ℕ) → after ≡ kept ++ arc ∷ [] → (ys : List ℕ) → take n (kept ++ arc ∷ ys) ≡ take n (after ++ ys)
keep_next n kept after arc e ys = ap (λ (l : List ℕ). take n l) (sym (append_assoc kept (arc ∷ []) ys) ∙ ap (λ (l : List ℕ). l ++ ys) (sym e))

-- there is no room for more
pub keep_full : (n : ℕ) (kept : List ℕ) → length kept ≡ n → (ys : List ℕ) → take n (kept ++ ys) ≡ kept
keep_full n kept h ys = take-append-le n kept ys (omega arith) ∙ take_all n kept (omega arith)
