use Rattle.theory.proofs.circle_laws.core_number_tells_circles.Goals as goal
use Rattle.theory.proofs.Numbers.{core_number_tells_circles, level_core_number_tells_circles}

pub returns : goal.returns
returns c = record { published = core_number_tells_circles; level = level_core_number_tells_circles }
