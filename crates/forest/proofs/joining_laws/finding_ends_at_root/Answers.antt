use Rattle.forest.proofs.joining_laws.finding_ends_at_root.Goals as goal
use Rattle.forest.proofs.Finding.{finding_ends_at_root}

pub returns : goal.returns
returns c = finding_ends_at_root
