use Rattle.theory.proofs.peeling_laws.peeling_meets_circles_once.Goals as goal
use Rattle.theory.proofs.Peeling.{peeling_meets_circles_once}

pub returns : goal.returns
returns c = peeling_meets_circles_once
