use Rattle.forest.proofs.holder_laws.sizes_add_up.Goals as goal
use Rattle.forest.proofs.Sums.{sizes_add_up}

pub returns : goal.returns
returns c = sizes_add_up
