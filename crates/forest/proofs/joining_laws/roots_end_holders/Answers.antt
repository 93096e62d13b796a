use Rattle.forest.proofs.joining_laws.roots_end_holders.Goals as goal
use Rattle.forest.proofs.Joining.{roots_end_holders}

pub returns : goal.returns
returns c = roots_end_holders
