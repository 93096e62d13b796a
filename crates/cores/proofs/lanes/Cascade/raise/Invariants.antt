use Rattle.std.proofs.Common.{◌≡◌, ℕ, ◌<◌, get_or}
use Rattle.networks.specs.Net.{degree_of}
use Rattle.cores.proofs.lanes.Cascade.raise.Given as goal

abbrev pub invariant-loop-u : goal.invariant-loop-u
invariant-loop-u g l = (v : ℕ) → v < l.u → get_or l.degree-items v 0 ≡ degree_of (g.N.Network.meaning l.net) v
