use Rattle.theory.proofs.listing_laws.peeling_lists.Goals as goal
use Rattle.theory.proofs.Entries.{peeling_lists}

pub returns : goal.returns
returns c = peeling_lists
