use Rattle.std.proofs.Common.{◌≡◌, ◌-◌, None, sym, ap, ◌∙◌, ap₂, arith}
use Rattle.faults.specs.Answers.{answered, unless}
use Rattle.networks.specs.Changes.{with_link, new_pair_fault, link_fault}
use Rattle.networks.proofs.Refusals.{granted, new_pair, link_granted}
use Rattle.networks.proofs.Rising.{kept_misses}
use Rattle.matrix.specs.Bits.{bit_at, net_in}
use Rattle.matrix.specs.Memory.{fixed_in}
use Rattle.matrix.proofs.Pairs.{pair_fixed, net_linked}
use Rattle.matrix.proofs.changing.BitMatrixChanging.link.Goals as goal

pub returns : goal.returns
returns g c =
    let s = c.args.self.now.square in
    let grades = c.args.self.now.grades.items in
    let u = c.args.u in
    let v = c.args.v in
    let net = net_in s.n s.bits.items grades in
    let new = granted (new_pair_fault net u v) (sym c.check_new_pair.ensures ∙ c.in_ok-check_new_pair.was) in
    let pair = new_pair net u v new in
    let there = s.mirror v u ∙ pair.3 in
    let none : link_fault (s.n - 1) net u v ≡ None = (
    let du = kept_misses (bit_at s.n s.bits.items u) s.n u v pair.0 pair.1 pair.2 (s.apart u) pair.3 in
    let dv = kept_misses (bit_at s.n s.bits.items v) s.n u v pair.0 pair.1 pair.2 there (s.apart v) in
    link_granted net u v (s.n - 1) new (omega arith) (omega arith)) in
    record {
      cases = ap (λ f. answered f tt) (sym none);
      network = ap₂ (λ n t. net_in n t grades) c.flip_pair.ensures.persons c.flip_pair.ensures.bits
          ∙ net_linked s.n s.bits.items u v pair.0 pair.1 pair.2 s.room grades pair.3 there
          ∙ ap (λ f. unless f (with_link net u v) net) (sym none);
      fixed = ap₂ (λ n t. fixed_in n t grades) c.flip_pair.ensures.persons c.flip_pair.ensures.bits ∙ pair_fixed s.n s.bits.items u v pair.0 pair.1 pair.2 s.room grades;
    }
