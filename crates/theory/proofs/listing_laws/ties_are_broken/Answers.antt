use Rattle.theory.proofs.listing_laws.ties_are_broken.Goals as goal
use Rattle.theory.proofs.Rankings.{ties_are_broken}

pub returns : goal.returns
returns c = ties_are_broken
