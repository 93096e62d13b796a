use Rattle.theory.proofs.core_laws.core_is_greatest.Goals as goal
use Rattle.theory.proofs.Cores.{core_is_greatest}

pub returns : goal.returns
returns c = core_is_greatest
