use Rattle.ways.proofs.Turns.{backward_table}
use Rattle.sweeps.proofs.priced.Priced.backward.Goals as goal

pub returns : goal.returns
returns g c = backward_table g.T.Tally _ _ _ _ c.args.self.now.chart.now.sealed _ c.sweep.ensures
