use Rattle.lines.proofs.Endings.{ends_byte}
use Rattle.lines.proofs.reader.Reader.finish.Goals as goal

pub returns : goal.returns
returns c = ends_byte c.end.result 41 _ _ _ _ c.in_ok-pass.ensures c.end.ensures
