use Rattle.forest.proofs.round_laws.peeling_is_rounds.Goals as goal
use Rattle.forest.proofs.Steps.{peeling_is_rounds}

pub returns : goal.returns
returns c = peeling_is_rounds
