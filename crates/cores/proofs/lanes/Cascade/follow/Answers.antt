use Rattle.std.proofs.Common.{◌+◌, get_or, arith, rules}
use Rattle.networks.specs.Net.{neighbours}
use Rattle.meaning.specs.Persons.{graph_of}
use Rattle.cores.specs.Lent.{lanes_of}
use Rattle.cores.proofs.Settling.{settled_fewer, settled_falling}
use Rattle.cores.proofs.Steps.{pops, falling_ends}
use Rattle.cores.proofs.lanes.Cascade.follow.Goals as goal

pub loop-head-smaller : goal.loop-head-smaller
loop-head-smaller g c =
    let near = neighbours (g.N.Network.meaning c.args.net.now) (get_or c.loop-head.self.order.now c.loop-head.head 0) in
    let f = settled_fewer c.args.k near (lanes_of c.loop-head.self) (lanes_of c.settle.new.self) c.settle.ensures.settled c.loop-head.invariant.fits in
    omega (arith, f.0, f.1, c.loop-head-test.true)

pub loop-head-preserved : goal.loop-head-preserved
loop-head-preserved g c =
    let net = g.N.Network.meaning c.args.net.now in
    let l = lanes_of c.loop-head.self in
    let head = c.loop-head.head in
    let near = neighbours net (get_or c.loop-head.self.order.now head 0) in
    let fits = c.loop-head.invariant.fits in
    record {
      same = search rules;
      fits = c.settle.ensures.fits;
      falling = λ X old f. rw c.settle.ensures.settled
          (settled_falling (graph_of net) c.args.k c.args.mark c.loop-head.self.near.now X old (head + 1) near l fits
          (pops net (g.N.Network.sound c.args.net.now) c.args.k c.args.mark X old l head fits.fell fits.order c.loop-head-test.true (c.loop-head.invariant.falling X old f)));
    }

pub returns-clause-fallen : goal.returns-clause-fallen
returns-clause-fallen g c = λ X old f. falling_ends (graph_of (g.N.Network.meaning c.args.net.now)) c.args.k c.args.mark X old (lanes_of c.loop-head.self) c.loop-head.head c.loop-head.invariant.fits.fell c.loop-head-test.false (c.loop-head.invariant.falling X old f)
