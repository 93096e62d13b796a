use Rattle.theory.proofs.circle_laws.circles_are_nested_by_k.Goals as goal
use Rattle.theory.proofs.Nesting.{nested_by_k, level_nested_by_k}

pub returns : goal.returns
returns c = record { published = nested_by_k; level = level_nested_by_k }
