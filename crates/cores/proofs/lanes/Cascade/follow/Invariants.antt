use Rattle.std.proofs.Common.{◌+◌, ◌-◌, []}
use Rattle.meaning.specs.Persons.{graph_of}
use Rattle.theory.specs.Sets.{Set, count}
use Rattle.cores.specs.Falling.{Falling}
use Rattle.cores.specs.Lanes.{Lanes, alive, Fits}
use Rattle.cores.specs.Lent.{lanes_of, SameLanes}
use Rattle.cores.proofs.lanes.Cascade.follow.Given as goal

abbrev pub invariant-loop-head : goal.invariant-loop-head
invariant-loop-head g l =
    let net = g.N.Network.meaning l.net in
    let n = net.persons in
    record {
      same : SameLanes l.initial.self l.self;
      fits : Fits n l.mark (lanes_of l.self) l.self.near.now;
      falling : (X : Set) (old : Lanes) → Falling (graph_of net) l.k n l.mark X old (lanes_of l.initial.self) l.initial.head [] → Falling (graph_of net) l.k n l.mark X old (lanes_of l.self) l.head [];
    }

abbrev pub decreases-loop-head : goal.decreases-loop-head
decreases-loop-head g l = l.self.tail - l.head + count (alive l.self.fell.now) (g.N.Network.meaning l.net).persons
