use Rattle.forest.proofs.holder_laws.adding_up_is_whole.Goals as goal
use Rattle.forest.proofs.Sums.{adding_up_is_whole}

pub returns : goal.returns
returns c = adding_up_is_whole
