use Rattle.forest.proofs.round_laws.rounds_list.Goals as goal
use Rattle.forest.proofs.Picking.{rounds_list}

pub returns : goal.returns
returns c = rounds_list
