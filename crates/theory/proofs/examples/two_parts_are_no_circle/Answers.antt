use Rattle.theory.proofs.examples.two_parts_are_no_circle.Goals as goal
use Rattle.theory.proofs.BowTie.{two_parts_are_no_circle}

pub returns : goal.returns
returns c = two_parts_are_no_circle
