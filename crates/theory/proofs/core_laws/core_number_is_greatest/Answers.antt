use Rattle.theory.proofs.core_laws.core_number_is_greatest.Goals as goal
use Rattle.theory.proofs.Numbers.{core_number_is_greatest}

pub returns : goal.returns
returns c = core_number_is_greatest
