use Rattle.std.proofs.Common.{sym, ap, ◌∙◌, arith}
use Rattle.faults.specs.Answers.{unless}
use Rattle.networks.specs.Changes.{with_grade, regrade_fault}
use Rattle.networks.proofs.Grading.{net_graded}
use Rattle.networks.proofs.Refusals.{granted}
use Rattle.matrix.specs.Bits.{bit_at, net_in}
use Rattle.matrix.proofs.changing.BitMatrixChanging.regrade.Goals as goal

pub returns-clause-network : goal.returns-clause-network
returns-clause-network g c =
    let s = c.args.self.now in
    let net = net_in s.square.n s.square.bits.items s.grades.items in
    let none = ap (regrade_fault net) (omega arith) ∙ granted (regrade_fault net _) (sym c.check_regrade.ensures ∙ c.in_ok-check_regrade.was) in
    net_graded s.square.n (bit_at s.square.n s.square.bits.items) s.grades.items c.args.u c.args.grade ∙ ap (λ f. unless f (with_grade net c.args.u c.args.grade) net) (sym none)
