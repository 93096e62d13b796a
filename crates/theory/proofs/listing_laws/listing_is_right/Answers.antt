use Rattle.theory.proofs.listing_laws.listing_is_right.Goals as goal
use Rattle.theory.proofs.Entries.{listing_is_right}

pub returns : goal.returns
returns c = listing_is_right
