-- What may follow a number or a word. Assumes nothing.
use Rattle.lines.specs.Laws.{number_told, pair_told, triple_told, some_number, some_pair, some_triple}
use Rattle.std.proofs.Common.{[], codes, arith}
use Rattle.std.specs.Fmt.{signed_decimal}
use Rattle.lines.specs.declared.word.Word.{Word}
use Rattle.lines.specs.declared.word.Word.TheVariants.{Casebook, Places, Arc, Once, Order, Budget, Seal, Claim, Price, Sample, Strike, Trim, Split, Close, Offer, Verdict}
use Rattle.lines.specs.Forms.{ShortZ}
use Rattle.lines.specs.Texts.{Item, Piece, Pairs, Triples, Numbers, Routes}
use Rattle.lines.specs.Words.{Ending, Body}
use Rattle.lines.proofs.Halting.{Live, Follows, byte_follows, is_follows}
use Rattle.lines.proofs.Pieces.{item_follows, signed_live}
use Rattle.lines.proofs.Listing.{many_follows, routes_follows}

-- the bracket that ends a form
pub ending : Follows Ending
ending = is_follows 41 [] (λ d. omega arith)

-- one number and that bracket
pub one : Follows (Item Ending)
one = item_follows Ending ending.live

-- two numbers
pub two : Follows (Item (Item Ending))
two = item_follows (Item Ending) one.live

-- three numbers
pub three : Follows (Item (Item (Item Ending)))
three = item_follows (Item (Item Ending)) two.live

-- four numbers
pub four : Follows (Item (Item (Item (Item Ending))))
four = item_follows (Item (Item (Item Ending))) three.live

-- pairs to the end of the line
pub pairs_follow : Follows Pairs
pairs_follow = many_follows pair_told some_pair []

-- triples to the end of the line
pub triples_follow : Follows Triples
triples_follow = many_follows triple_told some_triple []

-- numbers to the end of the line
pub numbers_follow : Follows Numbers
numbers_follow = many_follows number_told some_number []

-- a limit and triples
pub limit_live : Live (Piece signed_decimal ShortZ (λ _. Triples))
limit_live = signed_live Triples triples_follow.live

-- what follows a word
pub body : (w : Word) → Follows (Body w)
unfolding Body
body Casebook = is_follows 32 (codes "1)") (λ d. omega arith)
body Places = one
body Arc = item_follows (Item (Item (Item (Item Ending)))) four.live
body Once = routes_follows
body Order = two
body Budget = byte_follows 32 (Piece signed_decimal ShortZ (λ _. Triples)) (λ d. omega arith) limit_live
body Seal = ending
body Claim = one
body Price = pairs_follow
body Sample = ending
body Strike = pairs_follow
body Trim = ending
body Split = item_follows Routes routes_follows.live
body Close = pairs_follow
body Offer = numbers_follow
body Verdict = ending
