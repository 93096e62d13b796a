use Rattle.theory.proofs.listing_laws.members_rise.Goals as goal
use Rattle.theory.proofs.Members.{members_rise}

pub returns : goal.returns
returns c = members_rise
