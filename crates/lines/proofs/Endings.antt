-- The end of a line, byte by byte. Assumes nothing.
use Rattle.std.proofs.Common.{◌≡◌, ℕ, List, ◌∷◌, Some, None, Option, ap, ◌∙◌}
use Rattle.lines.specs.Texts.{Is, Ends}
use Rattle.lines.proofs.Halting.{is_some}

-- the byte b, and then what ends a line with p
pub ends_byte : {X : Type 0} (o : Option X) (b : ℕ) (p l l₁ rest : List ℕ) → l ≡ b ∷ l₁ → Ends (Is p) l₁ o rest → Ends (Is (b ∷ p)) l o rest
ends_byte None b p l l₁ rest e h = is_some e h
ends_byte (Some x) b p l l₁ rest e h = e ∙ ap (λ t. b ∷ t) h
