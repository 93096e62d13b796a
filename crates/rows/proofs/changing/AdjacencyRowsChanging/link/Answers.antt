use Rattle.std.proofs.Common.{sym, ap, ◌∙◌, arith}
use Rattle.faults.specs.Answers.{unless}
use Rattle.networks.specs.Changes.{with_link, link_fault}
use Rattle.rows.specs.Tidy.{links, net_of}
use Rattle.rows.proofs.Granted.{granted_is, refused_is, linked_apart}
use Rattle.rows.proofs.Holding.{net_linked}
use Rattle.rows.proofs.Pairing.{apart_more, bothways_more}
use Rattle.rows.proofs.changing.AdjacencyRowsChanging.link.Goals as goal

pub invariant_of-self-clause-apart : goal.invariant_of-self-clause-apart
invariant_of-self-clause-apart g c =
    let s = c.args.self.now in
    let apart = linked_apart _ (net_of s.rows s.grades.items) c.args.u c.args.v c.check_link.result c.check_link.ensures c.in_ok-check_link.was in
    λ x. c.join.ensures.linked x x ∙ apart_more (links s.rows) c.args.u c.args.v apart s.apart x

pub invariant_of-self-clause-bothways : goal.invariant_of-self-clause-bothways
invariant_of-self-clause-bothways g c =
    let s = c.args.self.now in
    let to = c.join.ensures.linked in
    λ x y. to x y ∙ bothways_more (links s.rows) c.args.u c.args.v s.bothways x y ∙ sym (to y x)

pub returns-clause-network : goal.returns-clause-network
returns-clause-network g c =
    let s = c.args.self.now in
    let net = net_of s.rows s.grades.items in
    net_linked c.join.new.self s.grades.items s.rows.n _ (ap (λ f. f.persons) c.join.ensures.framed) c.join.ensures.linked
    ∙ granted_is _ (with_link net c.args.u c.args.v) net c.check_link.result c.check_link.ensures c.in_ok-check_link.was
    ∙ ap (λ k. unless (link_fault k net c.args.u c.args.v) (with_link net c.args.u c.args.v) net) (omega arith)

pub returns-in_err-check_link-clause-network : goal.returns-in_err-check_link-clause-network
returns-in_err-check_link-clause-network g c =
    let s = c.args.self.now in
    let net = net_of s.rows s.grades.items in
    refused_is _ (with_link net c.args.u c.args.v) net c.check_link.result c.check_link.ensures _ c.in_err-check_link.was
    ∙ ap (λ k. unless (link_fault k net c.args.u c.args.v) (with_link net c.args.u c.args.v) net) (omega arith)
