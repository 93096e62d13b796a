use Rattle.std.proofs.Common.{sym, ap, ◌∙◌, ap₂}
use Rattle.faults.specs.Answers.{answered, unless}
use Rattle.networks.specs.Changes.{without_link, unlink_fault}
use Rattle.networks.proofs.Refusals.{granted, linked_pair}
use Rattle.matrix.specs.Bits.{net_in}
use Rattle.matrix.specs.Memory.{fixed_in}
use Rattle.matrix.proofs.Pairs.{pair_fixed, net_unlinked}
use Rattle.matrix.proofs.changing.BitMatrixChanging.unlink.Goals as goal

pub returns : goal.returns
returns g c =
    let s = c.args.self.now.square in
    let grades = c.args.self.now.grades.items in
    let u = c.args.u in
    let v = c.args.v in
    let net = net_in s.n s.bits.items grades in
    let none = granted (unlink_fault net u v) (sym c.check_unlink.ensures ∙ c.in_ok-check_unlink.was) in
    let pair = linked_pair net u v none in
    let after = c.flip_pair.ensures in
    record {
      cases = ap (λ f. answered f tt) (sym none);
      network = ap₂ (λ n t. net_in n t grades) after.persons after.bits
          ∙ net_unlinked s.n s.bits.items u v pair.0 pair.1 pair.2 s.room grades pair.3 (s.mirror v u ∙ pair.3)
          ∙ ap (λ f. unless f (without_link net u v) net) (sym none);
      fixed = ap₂ (λ n t. fixed_in n t grades) after.persons after.bits ∙ pair_fixed s.n s.bits.items u v pair.0 pair.1 pair.2 s.room grades;
    }
