use Rattle.std.proofs.Common.{◌<◌, get_or, ◌∙◌, arith, rules}
use Rattle.networks.specs.Net.{neighbours, degree_of}
use Rattle.cores.specs.Lent.{lanes_of}
use Rattle.cores.proofs.Near.{degree_le, near_at}
use Rattle.cores.proofs.Settling.{eased_fits, settled_next}
use Rattle.cores.proofs.lanes.Cascade.settle.Goals as goal

pub offset_bounds-self-i : goal.offset_bounds-self-i
offset_bounds-self-i g c =
    let a = degree_le (g.N.Network.meaning c.args.net.now) c.args.u in
    let b = (g.N.Network.sound c.args.net.now).few in
    search rules

pub bounds-self-i : goal.bounds-self-i
bounds-self-i g c = omega (arith, degree_le (g.N.Network.meaning c.args.net.now) c.args.u, c.copy_neighbours-d.ensures.count, c.loop-i.invariant.fits.room)

pub ease-requires : goal.ease-requires
ease-requires g c =
    let inside = (near_at (g.N.Network.meaning c.args.net.now) c.args.u c.loop-i.i c.loop-i.self.near.now c.args.self.now.near.now c.requires.room (c.loop-i.invariant.near ∙ c.copy_neighbours-d.ensures.copied) (omega (arith, c.copy_neighbours-d.ensures.count))).1 in
    record { fell = omega (arith, inside, c.loop-i.invariant.fits.fell); degree = omega (arith, inside, c.loop-i.invariant.fits.degrees) }

pub loop-i-preserved : goal.loop-i-preserved
loop-i-preserved g c =
    let net = g.N.Network.meaning c.args.net.now in
    let x = get_or c.loop-i.self.near.now c.loop-i.i 0 in
    let h : c.loop-i.i < degree_of net c.args.u = omega (arith, c.copy_neighbours-d.ensures.count) in
    let next = (near_at net c.args.u c.loop-i.i c.loop-i.self.near.now c.args.self.now.near.now c.requires.room (c.loop-i.invariant.near ∙ c.copy_neighbours-d.ensures.copied) h).0 in
    record {
      same = search rules;
      near = c.ease.ensures.near ∙ c.loop-i.invariant.near;
      fits = rw (c.ease.ensures.eased, c.ease.ensures.near) (eased_fits c.args.k x (lanes_of c.loop-i.self) c.loop-i.invariant.fits);
      left = settled_next c.args.k c.args.mark (neighbours net c.args.u) c.loop-i.i x (lanes_of c.loop-i.self) (lanes_of c.ease.new.self) h next c.ease.ensures.eased ∙ c.loop-i.invariant.left;
    }
