use Rattle.forest.proofs.joining_laws.joining_steps_back.Goals as goal
use Rattle.forest.proofs.Joining.{joining_steps_back}

pub returns : goal.returns
returns c = joining_steps_back
