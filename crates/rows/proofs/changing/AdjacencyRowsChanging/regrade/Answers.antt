use Rattle.std.proofs.Common.{◌∙◌}
use Rattle.networks.specs.Changes.{with_grade, regrade_fault}
use Rattle.networks.proofs.Grading.{net_graded}
use Rattle.rows.specs.Tidy.{links, net_of}
use Rattle.rows.proofs.Granted.{granted_is}
use Rattle.rows.proofs.changing.AdjacencyRowsChanging.regrade.Goals as goal

pub returns-clause-network : goal.returns-clause-network
returns-clause-network g c =
    let s = c.args.self.now in
    let net = net_of s.rows s.grades.items in
    net_graded s.rows.n (links s.rows) s.grades.items c.args.u c.args.grade
    ∙ granted_is (regrade_fault net c.args.u) (with_grade net c.args.u c.args.grade) net c.check_regrade.result c.check_regrade.ensures c.in_ok-check_regrade.was
