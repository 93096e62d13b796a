use Rattle.theory.proofs.loop_laws.degree_by_list.Goals as goal
use Rattle.theory.proofs.Loops.{degree_by_list}

pub returns : goal.returns
returns c = degree_by_list
