use Rattle.std.proofs.Common.{refl, arith}
use Rattle.std.proofs.lemmas.Bool.{false≢true}
use Rattle.terms.specs.Routes as routes
use Rattle.judging.proofs.Worked.{example_posed}
use Rattle.judging.proofs.theorems.edges_stand.Goals as goal

pub returns : goal.returns
unfolding routes.members
returns c = record {
  posed = example_posed;
  all = refl;
  price = refl;
  plan = refl;
  unlawful = λ l. false≢true (l.allowed 0 (omega arith));
  closes = refl;
  stays = refl;
  number = refl;
  strikes = refl;
  struck = refl;
  nothing = refl;
  unstruck = refl;
  ordered = refl;
  disordered = refl;
  refused = refl;
  refusal = refl;
  exactly = refl;
  at_most = refl;
  split = refl;
  sides = refl;
  unclosed = refl;
  best = refl;
}
