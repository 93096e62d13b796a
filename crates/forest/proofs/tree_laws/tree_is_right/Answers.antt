use Rattle.forest.proofs.tree_laws.tree_is_right.Goals as goal
use Rattle.forest.proofs.Vertices.{tree_is_right}

pub returns : goal.returns
returns c = tree_is_right
