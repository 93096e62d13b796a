use Rattle.theory.proofs.peeling_laws.dropped_are_own.Goals as goal
use Rattle.theory.proofs.Own.{dropped_are_own}

pub returns : goal.returns
returns c = dropped_are_own
