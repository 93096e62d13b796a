use Rattle.forest.proofs.tree_laws.holder_is_found.Goals as goal
use Rattle.forest.proofs.Vertices.{holder_is_found}

pub returns : goal.returns
returns c = holder_is_found
