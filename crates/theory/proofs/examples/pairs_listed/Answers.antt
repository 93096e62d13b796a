use Rattle.theory.proofs.examples.pairs_listed.Goals as goal
use Rattle.theory.proofs.BowTie.{pairs_listed}

pub returns : goal.returns
returns c = pairs_listed
