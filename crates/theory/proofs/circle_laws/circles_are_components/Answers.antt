use Rattle.theory.proofs.circle_laws.circles_are_components.Goals as goal
use Rattle.theory.proofs.Nesting.{circles_are_components, level_components}

pub returns : goal.returns
returns c = record { published = circles_are_components; level = level_components }
