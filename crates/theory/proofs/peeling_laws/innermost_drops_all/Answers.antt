use Rattle.theory.proofs.peeling_laws.innermost_drops_all.Goals as goal
use Rattle.theory.proofs.Own.{innermost_drops_all}

pub returns : goal.returns
returns c = innermost_drops_all
