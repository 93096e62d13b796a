use Rattle.forest.proofs.tree_laws.picking_lists.Goals as goal
use Rattle.forest.proofs.Picking.{picking_lists}

pub returns : goal.returns
returns c = picking_lists
