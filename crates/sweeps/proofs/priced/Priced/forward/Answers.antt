use Rattle.ways.proofs.Turns.{forward_table}
use Rattle.sweeps.proofs.priced.Priced.forward.Goals as goal

pub returns : goal.returns
returns g c = forward_table g.T.Tally _ _ _ _ _ c.sweep.ensures
