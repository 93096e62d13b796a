use Rattle.forest.proofs.round_laws.rounds_by_steps.Goals as goal
use Rattle.forest.proofs.Steps.{rounds_by_steps}

pub returns : goal.returns
returns c = rounds_by_steps
