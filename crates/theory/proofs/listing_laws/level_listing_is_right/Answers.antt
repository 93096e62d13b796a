use Rattle.theory.proofs.listing_laws.level_listing_is_right.Goals as goal
use Rattle.theory.proofs.Listed.{level_listing_is_right}

pub returns : goal.returns
returns c = level_listing_is_right
