use Rattle.std.proofs.Common.{◌≡◌, length, ap, ◌∙◌, rules}
use Rattle.networks.specs.Fixed.{opened_size}
use Rattle.rows.specs.Memory.{refusal_for}
use Rattle.rows.proofs.Holding.{net_linked}
use Rattle.rows.proofs.opening.AdjacencyRowsOpening.open.Goals as goal

pub returns-clause-network : goal.returns-clause-network
returns-clause-network g c =
    let m = c.args.memory in
    let size : c.map_or-persons.result ≡ opened_size (refusal_for c.args.n m.span (length m.counts.items) (length m.cells.items) (length m.grades.items)) c.args.n = search rules in
    let same : c.cleared.result.n ≡ c.map_or-persons.result = ap (λ f. f.persons) c.cleared.ensures.framed in
    net_linked c.cleared.result m.grades.items _ _ (same ∙ size) c.cleared.ensures.linked
