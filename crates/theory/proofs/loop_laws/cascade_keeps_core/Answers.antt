use Rattle.theory.proofs.loop_laws.cascade_keeps_core.Goals as goal
use Rattle.theory.proofs.Loops.{cascade_keeps_core}

pub returns : goal.returns
returns c = cascade_keeps_core
