use Rattle.theory.proofs.circle_laws.circles_are_apart_or_nested.Goals as goal
use Rattle.theory.proofs.Nesting.{apart_or_nested, level_apart_or_nested}

pub returns : goal.returns
returns c = record { published = apart_or_nested; level = level_apart_or_nested }
