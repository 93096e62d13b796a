use Rattle.theory.proofs.peeling_laws.innermost_is_tested.Goals as goal
use Rattle.theory.proofs.Own.{innermost_is_tested}

pub returns : goal.returns
returns c = innermost_is_tested
