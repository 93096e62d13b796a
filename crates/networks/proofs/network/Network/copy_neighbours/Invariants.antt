use Rattle.std.proofs.Common.{◌≡◌, take}
use Rattle.networks.specs.Net.{neighbours}
use Rattle.networks.proofs.network.Network.copy_neighbours.Given as goal

abbrev pub invariant-loop-i : goal.invariant-loop-i
invariant-loop-i g l = take l.i l.place-items ≡ take l.i (neighbours (g.Self.Network.meaning l.self) l.u)
