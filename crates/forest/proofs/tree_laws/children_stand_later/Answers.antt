use Rattle.forest.proofs.tree_laws.children_stand_later.Goals as goal
use Rattle.forest.proofs.Climbing.{children_stand_later}

pub returns : goal.returns
returns c = children_stand_later
