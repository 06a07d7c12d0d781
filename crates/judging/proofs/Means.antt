-- What a verdict means. Assumes nothing.
use Rattle.rules.specs.Lawful.{Problem}
use Rattle.judging.specs.Cases.{Model, opened}
use Rattle.judging.specs.Calls.{run}
use Rattle.judging.specs.Theorem.{Posed, Meant, VerdictMeans}
use Rattle.judging.proofs.Recalls.{recalled}
use Rattle.judging.proofs.Sound.{Safe, opened_safe, run_safe}
use Rattle.judging.proofs.Verdicts.{confirmed, best, refuted, refutable}
use Rattle.judging.proofs.Finish.{confirmable}

-- where that holds, the verdict means what is said
pub meant : (t : Problem) → Posed t → (m : Model) → Safe t m → Meant t m
meant t posed m s = record {
  confirmed = confirmed t m s;
  best = best t m s;
  refuted = refuted t m s;
  confirmable = λ few right. confirmable t posed few m s.claim right s;
  refutable = refutable t m;
}

pub verdict_means : VerdictMeans
verdict_means t posed calls = (
  recalled t calls,
  meant t posed (run t calls (opened t)) (run_safe t posed.chart.count calls (opened t) (opened_safe t posed.chart.count)),
)
