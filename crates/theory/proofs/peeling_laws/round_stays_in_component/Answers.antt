use Rattle.theory.proofs.peeling_laws.round_stays_in_component.Goals as goal
use Rattle.theory.proofs.Dropped.{round_stays_in_component}

pub returns : goal.returns
returns c = round_stays_in_component
