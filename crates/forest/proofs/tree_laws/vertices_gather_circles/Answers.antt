use Rattle.forest.proofs.tree_laws.vertices_gather_circles.Goals as goal
use Rattle.forest.proofs.Climbing.{vertices_gather_circles}

pub returns : goal.returns
returns c = vertices_gather_circles
