use Rattle.forest.proofs.examples.bow_tie_tree.Goals as goal
use Rattle.forest.proofs.BowTie.{bow_tie_tree}

pub returns : goal.returns
returns c = bow_tie_tree
