use Rattle.theory.proofs.core_laws.component_is_greatest.Goals as goal
use Rattle.theory.proofs.Components.{component_is_greatest}

pub returns : goal.returns
returns c = component_is_greatest
