-- What is read of a line. Assumes nothing.
use Rattle.std.specs.Prelude.{◌≡◌, ℕ, List, ℤ, Ok, Err, Result}
use Rattle.lines.specs.declared.Impossible.{Impossible as Why}
use Rattle.lines.specs.declared.form.Form.{Form as Read}
use Rattle.lines.specs.declared.form.Form.TheVariants as read
use Rattle.lines.specs.Forms.{Form, Casebook, Places, Arc, Once, Order, Budget, Seal, Claim, Price, Sample, Strike, Trim, Split, Close, Offer, Verdict, Proper, text}
use Rattle.lines.specs.Impossible.{FirstImpossible}
use Rattle.lines.specs.Cursors.{HoldsNumbers, HoldsPairs, HoldsTriples}

-- g, as the reader answers it, is the form f: a cursor stands for the items that it holds
abbrev pub Means : Read → Form → Type 0
Means read.Casebook f = f ≡ Casebook
Means (read.Places n) f = f ≡ Places n
Means (read.Arc a) f = f ≡ Arc a
Means (read.Once c) f = (routes : List ℕ) × HoldsNumbers routes c × (f ≡ Once routes)
Means (read.Order a b) f = f ≡ Order a b
Means (read.Budget limit c) f = (entries : List (ℕ × ℕ × ℤ)) × HoldsTriples entries c × (f ≡ Budget limit entries)
Means read.Seal f = f ≡ Seal
Means (read.Claim n) f = f ≡ Claim n
Means (read.Price c) f = (xs : List (ℕ × ℤ)) × HoldsPairs xs c × (f ≡ Price xs)
Means read.Sample f = f ≡ Sample
Means (read.Strike c) f = (xs : List (ℕ × ℤ)) × HoldsPairs xs c × (f ≡ Strike xs)
Means read.Trim f = f ≡ Trim
Means (read.Split place c) f = (routes : List ℕ) × HoldsNumbers routes c × (f ≡ Split place routes)
Means (read.Close c) f = (xs : List (ℕ × ℤ)) × HoldsPairs xs c × (f ≡ Close xs)
Means (read.Offer c) f = (arcs : List ℕ) × HoldsNumbers arcs c × (f ≡ Offer arcs)
Means read.Verdict f = f ≡ Verdict

-- the line l is the form that g means
pub record Says (l : List ℕ) (g : Read) : Type 0 where
  pub form : Form
  pub means : Means g form
  pub proper : Proper form
  pub whole : text form ≡ l

-- r is what is to be read of the line l: the form that it is, or the place of its first impossible byte
abbrev pub Reads : List ℕ → Result Read Why → Type 0
Reads l (Ok g) = Says l g
Reads l (Err why) = FirstImpossible l why.byte
