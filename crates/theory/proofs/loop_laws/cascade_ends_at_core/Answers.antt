use Rattle.theory.proofs.loop_laws.cascade_ends_at_core.Goals as goal
use Rattle.theory.proofs.Loops.{cascade_ends_at_core}

pub returns : goal.returns
returns c = cascade_ends_at_core
