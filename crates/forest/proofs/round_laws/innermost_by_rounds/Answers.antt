use Rattle.forest.proofs.round_laws.innermost_by_rounds.Goals as goal
use Rattle.forest.proofs.Steps.{innermost_by_rounds}

pub returns : goal.returns
returns c = innermost_by_rounds
