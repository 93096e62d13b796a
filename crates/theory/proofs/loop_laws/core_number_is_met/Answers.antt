use Rattle.theory.proofs.loop_laws.core_number_is_met.Goals as goal
use Rattle.theory.proofs.Loops.{core_number_is_met}

pub returns : goal.returns
returns c = core_number_is_met
