-- Tests that say the same, and how many arcs pass a test. Assumes nothing.
use Rattle.std.proofs.Common.{◌≡◌, ℕ, zero, suc, ◌<◌, Bool, true, false, cond, sym, refl, ap, ◌∙◌, arith}
use Rattle.plans.specs.Cases.{Case, size}

-- two tests of which each says yes where the other does
pub same_bool : (a b : Bool) → (a ≡ true → b ≡ true) → (b ≡ true → a ≡ true) → a ≡ b
same_bool true b f g = sym (f refl)
same_bool false true f g = g refl
same_bool false false f g = refl

-- two sets that agree below n have as many arcs there
pub size_same : (s r : Case) (n : ℕ) → ((a : ℕ) → a < n → s a ≡ r a) → size s n ≡ size r n
size_same s r zero h = refl
size_same s r (suc n) h =
    ap (λ (b : Bool). cond b (suc (size s n)) (size s n)) (h n (omega arith)) ∙ ap (λ (m : ℕ). cond (r n) (suc m) m) (size_same s r n (λ a l. h a (omega arith)))
