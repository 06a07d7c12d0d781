-- What a line is answered, where each form has a defined outcome. Assumes nothing.
use Rattle.std.specs.Prelude.{◌≡◌, ℕ, ◌<◌, ◌≤◌, ◌⊎◌, List, length, Err, Result}
use Rattle.terms.specs.declared.refusal.Refusal.{Refusal}
use Rattle.terms.specs.declared.refusal.Refusal.TheVariants.{Grammar}
use Rattle.terms.specs.Refusals.{Outcome}
use Rattle.lines.specs.Forms.{Form, Proper, text}
use Rattle.lines.specs.Impossible.{FirstImpossible}

-- the line l is a form, and r and left are what the form answers and leaves
pub record ByForm {S A : Type 0} (on : Form → Outcome S A) (l : List ℕ) (r : Result A Refusal) (left : S) : Type 0 where
  pub form : Form
  pub proper : Proper form
  pub whole : text form ≡ l
  pub answer : r ≡ (on form).answer
  pub after : left ≡ (on form).left

-- the line l is no form: it is refused with its first impossible byte, and all is left as it was
pub record ByByte {S A : Type 0} (s : S) (l : List ℕ) (r : Result A Refusal) (left : S) : Type 0 where
  pub byte : ℕ
  pub first : FirstImpossible l byte
  pub answer : r ≡ Err (Grammar byte)
  pub after : left ≡ s

-- r is the answer to the line l at s, and left is what it leaves, where `on` says what each form answers and leaves; a
-- line of more than 4,096 bytes is refused at 4,097
pub record Replies {S A : Type 0} (on : Form → Outcome S A) (s : S) (l : List ℕ) (r : Result A Refusal) (left : S) : Type 0 where
  pub short : length l ≤ 4096 → ByForm on l r left ⊎ ByByte s l r left
  pub long : 4096 < length l → (r ≡ Err (Grammar 4097)) × (left ≡ s)
