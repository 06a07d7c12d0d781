use Rattle.lines.proofs.Unique.{one_reading}
use Rattle.lines.proofs.one_reading.Goals as goal

pub returns : goal.returns
returns c = one_reading
