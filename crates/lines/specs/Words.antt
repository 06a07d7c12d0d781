-- The words of the forms, and what may follow each. Assumes nothing.
use Rattle.std.specs.Prelude.{ℕ, List, [], ◌∷◌, ◌++◌, codes}
use Rattle.lines.specs.Texts.{Is, Item, Routes, Pairs, Numbers, Limited}
use Rattle.lines.specs.declared.word.Word.{Word}
use Rattle.lines.specs.declared.word.Word.TheVariants.{Casebook, Places, Arc, Once, Order, Budget, Seal, Claim, Price, Sample, Strike, Trim, Split, Close, Offer, Verdict}

-- how a word is written
abbrev pub spelt : Word → List ℕ
spelt Casebook = codes "casebook"
spelt Places = codes "places"
spelt Arc = codes "arc"
spelt Once = codes "once"
spelt Order = codes "order"
spelt Budget = codes "budget"
spelt Seal = codes "seal"
spelt Claim = codes "claim"
spelt Price = codes "price"
spelt Sample = codes "sample"
spelt Strike = codes "strike"
spelt Trim = codes "trim"
spelt Split = codes "split"
spelt Close = codes "close"
spelt Offer = codes "offer"
spelt Verdict = codes "verdict"

-- a bracket, the word w and then the text t
unfoldable pub headed : Word → List ℕ → List ℕ
headed w t = codes "(" ++ (spelt w ++ t)

-- every word, in the order in which they are tried
abbrev pub words : List Word
words = Casebook ∷ Places ∷ Arc ∷ Once ∷ Order ∷ Budget ∷ Seal ∷ Claim ∷ Price ∷ Sample ∷ Strike ∷ Trim ∷ Split ∷ Close ∷ Offer ∷ Verdict ∷ []

-- every word is one
abbrev pub Any : Word → Type 0
Any w = Unit {0}

-- the bracket that ends a form
abbrev pub Ending : List ℕ → Type 0
Ending = Is (codes ")")

-- what may follow a word, to the end of the line
unfoldable pub Body : Word → List ℕ → Type 0
Body Casebook = Is (codes " 1)")
Body Places = Item Ending
Body Arc = Item (Item (Item (Item (Item Ending))))
Body Once = Routes
Body Order = Item (Item Ending)
Body Budget = Limited
Body Seal = Ending
Body Claim = Item Ending
Body Price = Pairs
Body Sample = Ending
Body Strike = Pairs
Body Trim = Ending
Body Split = Item Routes
Body Close = Pairs
Body Offer = Numbers
Body Verdict = Ending
