use Rattle.theory.proofs.loop_laws.degree_falls_by_one.Goals as goal
use Rattle.theory.proofs.Loops.{degree_falls_by_one}

pub returns : goal.returns
returns c = degree_falls_by_one
