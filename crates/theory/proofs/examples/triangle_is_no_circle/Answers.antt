use Rattle.theory.proofs.examples.triangle_is_no_circle.Goals as goal
use Rattle.theory.proofs.BowTie.{triangle_is_no_circle}

pub returns : goal.returns
returns c = triangle_is_no_circle
