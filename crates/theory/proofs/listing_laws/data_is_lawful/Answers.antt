use Rattle.theory.proofs.listing_laws.data_is_lawful.Goals as goal
use Rattle.theory.proofs.Data.{data_is_lawful}

pub returns : goal.returns
returns c = data_is_lawful
