use Rattle.std.proofs.Common.{[]}
use Rattle.meaning.specs.Persons.{graph_of}
use Rattle.cores.specs.Falling.{Falling}
use Rattle.cores.specs.Lanes.{alive, Fits, Ready}
use Rattle.cores.specs.Lent.{lanes_of, SameLanes}
use Rattle.cores.proofs.lanes.Cascade.drop_weak.Given as goal

abbrev pub invariant-loop-u : goal.invariant-loop-u
invariant-loop-u g l =
    let net = g.N.Network.meaning l.net in
    let old = lanes_of l.initial.self in
    record {
      same : SameLanes l.initial.self l.self;
      fits : Fits net.persons l.mark (lanes_of l.self) l.self.near.now;
      falling : Ready (graph_of net) old → Falling (graph_of net) l.k l.u l.mark (alive old.fell) old (lanes_of l.self) old.tail [];
    }
