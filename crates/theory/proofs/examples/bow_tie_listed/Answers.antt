use Rattle.theory.proofs.examples.bow_tie_listed.Goals as goal
use Rattle.theory.proofs.BowTie.{bow_tie_listed}

pub returns : goal.returns
returns c = bow_tie_listed
