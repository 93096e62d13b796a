use Rattle.theory.proofs.examples.fallen_neighbour_counts.Goals as goal
use Rattle.theory.proofs.BowTie.{fallen_neighbour_counts}

pub returns : goal.returns
returns c = fallen_neighbour_counts
