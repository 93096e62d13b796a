use Rattle.std.proofs.Common.{◌<◌, length, arith, rules}
use Rattle.std.proofs.lemmas.Bool.{both_ways}
use Rattle.meaning.specs.Persons.{graph_of}
use Rattle.cores.specs.Lanes.{alive}
use Rattle.cores.specs.Lent.{lanes_of}
use Rattle.cores.proofs.Alive.{alive_read, alive_read_not}
use Rattle.cores.proofs.Settling.{let_fall_fits, falls_at}
use Rattle.cores.proofs.Steps.{passes}
use Rattle.cores.proofs.lanes.Cascade.drop_weak.Goals as goal
use Rattle.cores.proofs.lanes.Cascade.drop_weak.Goals.{then-self-u-eq0+then-self-u, else-self-u-eq0, else-self-u-eq0-via-then-self-u-eq0+else-self-u, else-self-u-eq0-via-else-self-u-eq0}

pub loop-u-preserved : goal.loop-u-preserved
loop-u-preserved g c =
    let gr = graph_of (g.N.Network.meaning c.args.net.now) in
    let u = c.loop-u.u in
    let k = c.args.k in
    let mark = c.args.mark in
    let old = lanes_of c.args.self.now in
    let l = lanes_of c.loop-u.self in
    let fits = c.loop-u.invariant.fits in
    let inside : u < length l.fell = omega (arith, fits.fell, c.requires.fell) in
    elim c.if-self-u-eq0.branch [
      | then-self-u-eq0+then-self-u w ↦ rw w.self-is (record {
        same = search rules;
        fits = rw (w.let_fall.ensures.fell, w.let_fall.ensures.near) (let_fall_fits u l fits);
        falling = λ r. rw w.let_fall.ensures.fell (falls_at gr k mark c.loop-u.self.near.now (alive old.fell) old old.tail u l fits (alive_read l.fell u inside w.if-self-u-eq0.true) w.if-self-u.true (c.loop-u.invariant.falling r));
      })
      | else-self-u-eq0 w ↦ rw w.self-is (record {
        same = c.loop-u.invariant.same;
        fits = fits;
        falling = λ r. passes gr k u mark (alive old.fell) old l old.tail (λ m. elim w.else-self-u-eq0.branch [
          | else-self-u-eq0-via-then-self-u-eq0+else-self-u w' ↦ w'.if-self-u.false
          | else-self-u-eq0-via-else-self-u-eq0 w' ↦ absurd (both_ways (alive l.fell u) (alive_read_not l.fell u inside w'.if-self-u-eq0.false) m)
        ]) (c.loop-u.invariant.falling r);
      })
    ]
