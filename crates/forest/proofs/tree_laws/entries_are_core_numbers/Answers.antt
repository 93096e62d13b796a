use Rattle.forest.proofs.tree_laws.entries_are_core_numbers.Goals as goal
use Rattle.forest.proofs.Entries.{entries_are_core_numbers}

pub returns : goal.returns
returns c = entries_are_core_numbers
