use Rattle.rows.proofs.Holding.{holds}
use Rattle.rows.proofs.opening.AdjacencyRowsOpening.close.Goals as goal

pub returns : goal.returns
returns g c = holds c.args.self
