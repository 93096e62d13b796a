use Rattle.theory.proofs.circle_laws.circle_forms_agree.Goals as goal
use Rattle.theory.proofs.Circles.{circle_forms_agree}

pub returns : goal.returns
returns c = circle_forms_agree
