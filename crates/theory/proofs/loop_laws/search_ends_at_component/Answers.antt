use Rattle.theory.proofs.loop_laws.search_ends_at_component.Goals as goal
use Rattle.theory.proofs.Loops.{search_ends_at_component}

pub returns : goal.returns
returns c = search_ends_at_component
