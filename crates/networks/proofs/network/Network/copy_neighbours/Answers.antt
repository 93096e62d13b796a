use Rattle.std.proofs.Common.{◌+◌, ◌<◌, length, slice_get, take, ap, ◌∙◌, arith, rules}
use Rattle.std.proofs.lemmas.List.{length-take}
use Rattle.networks.specs.Net.{neighbours}
use Rattle.networks.proofs.Rising.{kept_below, nth_some, nth_none, nth_next}
use Rattle.networks.proofs.network.Network.copy_neighbours.Goals as goal
use Rattle.networks.proofs.network.Network.copy_neighbours.Goals.{in-Some, in_default}

pub overflow_cast-place : goal.overflow_cast-place
overflow_cast-place g c =
    let net = g.Self.Network.meaning c.args.self.now in
    let near = neighbours net c.args.u in
    let short : c.loop-i.i < length near = omega (arith, length-take c.min-n.result c.args.places.now) in
    let v = nth_some near c.loop-i.i c.in-Some.v c.neighbour.result (c.neighbour.ensures ∙ ap (slice_get near) (omega arith)) c.in-Some.is short in
    let b = kept_below (net.linked c.args.u) net.persons c.loop-i.i c.in-Some.v short in
    let few = (g.Self.Network.sound c.args.self.now).few in
    search rules

pub loop-i-preserved : goal.loop-i-preserved
loop-i-preserved g c =
    let near = neighbours (g.Self.Network.meaning c.args.self.now) c.args.u in
    let i = c.loop-i.i in
    let short : i < length near = omega (arith, length-take c.min-n.result c.args.places.now) in
    elim c.match-neighbour.branch [
      | in-Some w ↦ ap (take (i + 1)) w.place-items-is ∙ nth_next near c.loop-i.place-items i w.in-Some.v short (omega arith) (nth_some near i w.in-Some.v c.neighbour.result (c.neighbour.ensures ∙ ap (slice_get near) (omega arith)) w.in-Some.is short) c.loop-i.invariant
      | in_default w ↦ absurd (nth_none near i c.neighbour.result (c.neighbour.ensures ∙ ap (slice_get near) (omega arith)) w.in_default.is short 0)
    ]
