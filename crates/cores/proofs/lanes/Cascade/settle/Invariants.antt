use Rattle.std.proofs.Common.{◌≡◌, drop}
use Rattle.networks.specs.Net.{neighbours}
use Rattle.cores.specs.Falling.{settled}
use Rattle.cores.specs.Lanes.{Fits}
use Rattle.cores.specs.Lent.{lanes_of, SameLanes}
use Rattle.cores.proofs.lanes.Cascade.settle.Given as goal

abbrev pub invariant-loop-i : goal.invariant-loop-i
invariant-loop-i g l =
    let net = g.N.Network.meaning l.net in
    record {
      same : SameLanes l.initial.self l.self;
      near : l.self.near.now ≡ l.initial.self.near.now;
      fits : Fits net.persons l.mark (lanes_of l.self) l.self.near.now;
      left : settled l.k l.mark (drop l.i (neighbours net l.u)) (lanes_of l.self) ≡ settled l.k l.mark (neighbours net l.u) (lanes_of l.initial.self);
    }
