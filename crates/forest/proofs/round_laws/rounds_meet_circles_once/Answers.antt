use Rattle.forest.proofs.round_laws.rounds_meet_circles_once.Goals as goal
use Rattle.forest.proofs.Rounds.{rounds_meet_circles_once}

pub returns : goal.returns
returns c = rounds_meet_circles_once
