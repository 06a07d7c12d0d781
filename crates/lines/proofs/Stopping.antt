-- Where a reader stops, byte by byte and piece by piece. Assumes nothing.
use Rattle.std.proofs.Common.{ℕ, suc, ◌+◌, ◌<◌, List, [], ◌∷◌, ◌++◌, length, take, sym, refl, subst, suc-add, zero-add, add-one, arith}
use Rattle.lines.specs.Texts.{Stops}
use Rattle.lines.specs.Items.{Like}

-- no text of M begins as l does
pub stop_now : (M : List ℕ → Type 0) (l : List ℕ) → ((t : List ℕ) × M t) → ((t : List ℕ) → Like l t → M t → ⊥) → Stops M l 0
stop_now M [] live bar = record { within = omega arith; before = live; here = λ lt t m. absurd (omega arith); whole = bar [] refl }
stop_now M (b ∷ l) live bar = record { within = omega arith; before = live; here = λ lt t m. bar (b ∷ t) refl m; whole = bar (b ∷ l) refl }

-- after the byte b, the texts of N follow
pub stop_byte : (M N : List ℕ → Type 0) (b : ℕ) (l : List ℕ) (k : ℕ) → Stops N l k → ((t : List ℕ) → N t → M (b ∷ t)) → ((t : List ℕ) → Like l t → M (b ∷ t) → N t) → Stops M (b ∷ l) (suc k)
stop_byte M N b l k s back forth = record {
  within = omega (arith, s.within);
  before = (s.before.0, back _ s.before.1);
  here = λ lt t m. go l s forth (omega arith) t (subst (λ i. M (take i (b ∷ l) ++ t)) (add-one (suc k)) m);
  whole = λ m. s.whole (forth l refl m);
}
  where
    go : (l : List ℕ) → Stops N l k → ((t : List ℕ) → Like l t → M (b ∷ t) → N t) → k < length l → (t : List ℕ) → M (b ∷ (take (suc k) l ++ t)) → ⊥
    go [] s forth lt t m = absurd (omega arith)
    go (c ∷ l) s forth lt t m = s.here lt t (subst (λ i. N (take i (c ∷ l) ++ t)) (sym (add-one k)) (forth _ refl m))

-- after the bytes p, the texts of N follow
pub stop_after : (M N : List ℕ → Type 0) (p l : List ℕ) (k : ℕ) → Stops N l k → ((t : List ℕ) → N t → M (p ++ t)) → ((t : List ℕ) → Like l t → M (p ++ t) → N t) → Stops M (p ++ l) (length p + k)
stop_after M N [] l k s back forth = subst (Stops M l) (sym (zero-add k)) (record {
  within = s.within;
  before = (s.before.0, back _ s.before.1);
  here = λ lt t m. go l s forth lt t m;
  whole = λ m. s.whole (forth l refl m);
})
  where
    go : (l : List ℕ) → Stops N l k → ((t : List ℕ) → Like l t → M t → N t) → k < length l → (t : List ℕ) → M (take (k + 1) l ++ t) → ⊥
    go [] s forth lt t m = absurd (omega arith)
    go (c ∷ l) s forth lt t m = s.here lt t (forth _ (subst (λ i. Like (c ∷ l) (take i (c ∷ l) ++ t)) (sym (add-one k)) refl) m)
stop_after M N (b ∷ p) l k s back forth =
    subst (Stops M (b ∷ (p ++ l))) (sym (suc-add (length p) k))
    (stop_byte M (λ t. M (b ∷ t)) b (p ++ l) (length p + k) (stop_after (λ t. M (b ∷ t)) N p l k s back forth) (λ t m. m) (λ t h m. m))
