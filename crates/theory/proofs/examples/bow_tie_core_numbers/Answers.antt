use Rattle.theory.proofs.examples.bow_tie_core_numbers.Goals as goal
use Rattle.theory.proofs.BowTie.{bow_tie_core_numbers}

pub returns : goal.returns
returns c = bow_tie_core_numbers
