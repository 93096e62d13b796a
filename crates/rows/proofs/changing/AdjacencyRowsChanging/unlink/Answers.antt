use Rattle.std.proofs.Common.{sym, ap, ◌∙◌}
use Rattle.networks.specs.Changes.{without_link, unlink_fault}
use Rattle.rows.specs.Tidy.{links, net_of}
use Rattle.rows.proofs.Granted.{granted_is}
use Rattle.rows.proofs.Holding.{net_linked}
use Rattle.rows.proofs.Pairing.{apart_less, bothways_less}
use Rattle.rows.proofs.changing.AdjacencyRowsChanging.unlink.Goals as goal

pub invariant_of-self-clause-apart : goal.invariant_of-self-clause-apart
invariant_of-self-clause-apart g c =
    let s = c.args.self.now in
    λ x. c.sever.ensures.linked x x ∙ apart_less (links s.rows) c.args.u c.args.v s.apart x

pub invariant_of-self-clause-bothways : goal.invariant_of-self-clause-bothways
invariant_of-self-clause-bothways g c =
    let s = c.args.self.now in
    let to = c.sever.ensures.linked in
    λ x y. to x y ∙ bothways_less (links s.rows) c.args.u c.args.v s.bothways x y ∙ sym (to y x)

pub returns-clause-network : goal.returns-clause-network
returns-clause-network g c =
    let s = c.args.self.now in
    let net = net_of s.rows s.grades.items in
    net_linked c.sever.new.self s.grades.items s.rows.n _ (ap (λ f. f.persons) c.sever.ensures.framed) c.sever.ensures.linked
    ∙ granted_is (unlink_fault net c.args.u c.args.v) (without_link net c.args.u c.args.v) net c.check_unlink.result c.check_unlink.ensures c.in_ok-check_unlink.was
