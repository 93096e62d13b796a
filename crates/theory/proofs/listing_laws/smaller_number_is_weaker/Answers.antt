use Rattle.theory.proofs.listing_laws.smaller_number_is_weaker.Goals as goal
use Rattle.theory.proofs.Rankings.{smaller_number_is_weaker}

pub returns : goal.returns
returns c = smaller_number_is_weaker
