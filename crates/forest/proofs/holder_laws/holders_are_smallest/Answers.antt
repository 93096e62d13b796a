use Rattle.forest.proofs.holder_laws.holders_are_smallest.Goals as goal
use Rattle.forest.proofs.Holders.{holders_are_smallest}

pub returns : goal.returns
returns c = holders_are_smallest
