use Rattle.dossiers.proofs.Whole.{dossier_means}
use Rattle.dossiers.proofs.working.line.Goals as goal

pub returns-in_err-form-clause-theorem : goal.returns-in_err-form-clause-theorem
returns-in_err-form-clause-theorem g c = λ ls leads. dossier_means ls _ _ leads

pub returns-clause-theorem : goal.returns-clause-theorem
returns-clause-theorem g c = λ ls leads. dossier_means ls _ _ leads
