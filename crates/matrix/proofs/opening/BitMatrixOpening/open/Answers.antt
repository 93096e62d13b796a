use Rattle.std.proofs.Common.{◌≡◌, ◌*◌, ◌≤◌, [], ◌∷◌, length, ap, ◌∙◌, ap₂, rules}
use Rattle.networks.specs.Fixed.{opened, opened_size}
use Rattle.matrix.specs.Bits.{stride, net_in}
use Rattle.matrix.specs.Memory.{refusal_for}
use Rattle.matrix.proofs.Clears.{cleared_net}
use Rattle.matrix.proofs.opening.BitMatrixOpening.open.Goals as goal

pub returns-clause-network : goal.returns-clause-network
returns-clause-network g c =
    let m = c.args.memory in
    let n = c.map_or-n.result in
    let size : n ≡ opened_size (refusal_for c.args.n (length m.bits.items ∷ length m.grades.items ∷ [])) c.args.n = search rules in
    let room : n * stride n ≤ length m.bits.items = search rules in
    ap₂ (λ k t. net_in k t m.grades.items) c.cleared.ensures.persons c.cleared.ensures.bits
    ∙ cleared_net n m.bits.items room m.grades.items
    ∙ ap (λ k. opened k m.grades.items) size
