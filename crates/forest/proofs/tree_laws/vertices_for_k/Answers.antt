use Rattle.forest.proofs.tree_laws.vertices_for_k.Goals as goal
use Rattle.forest.proofs.Trees.{vertices_for_k}

pub returns : goal.returns
returns c = vertices_for_k
