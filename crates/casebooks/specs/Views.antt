-- What a casebook stands for: the problem that it judges, and the model of how far it has come. Assumes nothing.
use Rattle.rules.specs.declared.bank.Bank.{Ghosts}
use Rattle.rules.specs.Lawful.{Problem}
use Rattle.judging.specs.Cases.{Model}
pub use Rattle.casebooks.specs.Desks.{problem_of, model_of}
use Rattle.casebooks.specs.declared.casebook.Casebook.{Casebook}

-- what a casebook judges: its chart, and the rules that its bank means
abbrev pub problem_in : {B : Type 0} → (bank : Ghosts B) → Casebook B bank → Problem
problem_in bank k = problem_of k.desk (bank.rules k.bank)

-- how far it has come
abbrev pub model_in : {B : Type 0} {bank : Ghosts B} → Casebook B bank → Model
model_in k = model_of k.desk
