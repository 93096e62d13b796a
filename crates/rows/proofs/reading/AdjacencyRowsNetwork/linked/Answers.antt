use Rattle.rows.proofs.Neighbourhoods.{near_linked}
use Rattle.rows.proofs.reading.AdjacencyRowsNetwork.linked.Goals as goal

pub returns : goal.returns
returns g c =
    let s = c.args.self.now in
    let near = near_linked s.rows.n s.rows.span s.rows.counts.items s.rows.cells.items s.bothways c.args.u c.args.v in
    cc
