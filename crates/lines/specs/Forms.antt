-- The forms of a dossier's lines, and the one text of each. Assumes nothing.
use Rattle.std.specs.Prelude.{◌≡◌, ℕ, suc, ◌^◌, ◌<◌, List, [], ◌∷◌, ◌++◌, ℤ, pos, negsuc, codes, decimal}
use Rattle.std.specs.List.{flat_map, AllByRecursion}
use Rattle.std.specs.Fmt.{signed_decimal}
use Rattle.terms.specs.declared.arc.NewArc.{NewArc}

-- what a line can say
pub data Form : Type 0 where
  Casebook : Form
  Places : ℕ → Form
  Arc : NewArc → Form
  -- the routes
  Once : List ℕ → Form
  -- the two routes
  Order : ℕ → ℕ → Form
  -- the limit, and (place, route, weight) of each entry
  Budget : ℤ → List (ℕ × ℕ × ℤ) → Form
  Seal : Form
  Claim : ℕ → Form
  -- (rule, multiplier) of each rule named, here and below
  Price : List (ℕ × ℤ) → Form
  Sample : Form
  Strike : List (ℕ × ℤ) → Form
  Trim : Form
  -- the place and the routes
  Split : ℕ → List ℕ → Form
  Close : List (ℕ × ℤ) → Form
  -- the arcs
  Offer : List ℕ → Form
  Verdict : Form

-- a number after a blank
abbrev pub number : ℕ → List ℕ
number n = codes " " ++ decimal n

-- numbers, each after a blank
abbrev pub numbers : List ℕ → List ℕ
numbers ns = flat_map number ns

-- numbers with one blank between
abbrev pub spaced : List ℕ → List ℕ
spaced [] = []
spaced (n ∷ ns) = decimal n ++ numbers ns

-- a signed number after a blank, and the bracket that ends its entry
abbrev pub amount : ℤ → List ℕ
amount z = codes " " ++ (signed_decimal z ++ codes ")")

-- (rule multiplier)
abbrev pub pair : ℕ × ℤ → List ℕ
pair x = codes "(" ++ (decimal x.0 ++ amount x.1)

-- pairs, each after a blank
abbrev pub pairs : List (ℕ × ℤ) → List ℕ
pairs xs = flat_map (λ x. codes " " ++ pair x) xs

-- (place route weight)
abbrev pub triple : ℕ × ℕ × ℤ → List ℕ
triple x = codes "(" ++ (decimal x.0 ++ (number x.1 ++ amount x.2))

-- triples, each after a blank
abbrev pub triples : List (ℕ × ℕ × ℤ) → List ℕ
triples xs = flat_map (λ x. codes " " ++ triple x) xs

-- the text of a form: its word and its items in round brackets, with one blank between
abbrev pub text : Form → List ℕ
text Casebook = codes "(casebook 1)"
text (Places n) = codes "(places" ++ (number n ++ codes ")")
text (Arc a) = codes "(arc" ++ (number a.place ++ (number a.start ++ (number a.end ++ (number a.route ++ (number a.minutes ++ codes ")")))))
text (Once routes) = codes "(once (" ++ (spaced routes ++ codes "))")
text (Order a b) = codes "(order" ++ (number a ++ (number b ++ codes ")"))
text (Budget limit entries) = codes "(budget " ++ (signed_decimal limit ++ (triples entries ++ codes ")"))
text Seal = codes "(seal)"
text (Claim n) = codes "(claim" ++ (number n ++ codes ")")
text (Price xs) = codes "(price" ++ (pairs xs ++ codes ")")
text Sample = codes "(sample)"
text (Strike xs) = codes "(strike" ++ (pairs xs ++ codes ")")
text Trim = codes "(trim)"
text (Split place routes) = codes "(split" ++ (number place ++ (codes " (" ++ (spaced routes ++ codes "))")))
text (Close xs) = codes "(close" ++ (pairs xs ++ codes ")")
text (Offer arcs) = codes "(offer" ++ (numbers arcs ++ codes ")")
text Verdict = codes "(verdict)"

-- at most ten digits
abbrev pub Short : ℕ → Type 0
Short n = n < 10 ^ 10

-- at most ten digits, and perhaps a minus
abbrev pub ShortZ : ℤ → Type 0
ShortZ (pos n) = Short n
ShortZ (negsuc n) = Short (suc n)

-- a rule and a multiplier of at most ten digits
abbrev pub ShortPair : ℕ × ℤ → Type 0
ShortPair x = Short x.0 × ShortZ x.1

-- a place, a route and a weight of at most ten digits
abbrev pub ShortTriple : ℕ × ℕ × ℤ → Type 0
ShortTriple x = Short x.0 × Short x.1 × ShortZ x.2

-- every number of the form has at most ten digits
abbrev pub Proper : Form → Type 0
Proper Casebook = Unit {0}
Proper (Places n) = Short n
Proper (Arc a) = Short a.place × Short a.start × Short a.end × Short a.route × Short a.minutes
Proper (Once routes) = AllByRecursion Short routes
Proper (Order a b) = Short a × Short b
Proper (Budget limit entries) = ShortZ limit × AllByRecursion ShortTriple entries
Proper Seal = Unit {0}
Proper (Claim n) = Short n
Proper (Price xs) = AllByRecursion ShortPair xs
Proper Sample = Unit {0}
Proper (Strike xs) = AllByRecursion ShortPair xs
Proper Trim = Unit {0}
Proper (Split place routes) = Short place × AllByRecursion Short routes
Proper (Close xs) = AllByRecursion ShortPair xs
Proper (Offer arcs) = AllByRecursion Short arcs
Proper Verdict = Unit {0}

-- the line l is a form
pub record Formed (l : List ℕ) : Type 0 where
  pub form : Form
  pub proper : Proper form
  pub whole : text form ≡ l
