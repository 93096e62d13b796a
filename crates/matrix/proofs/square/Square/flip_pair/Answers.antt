use Rattle.matrix.proofs.Pairs.{pair_written, pair_keeps}
use Rattle.matrix.proofs.square.Square.flip_pair.Goals as goal

pub invariant_of-self : goal.invariant_of-self
invariant_of-self c =
    let s = c.args.self.now in
    let u = c.args.u in
    let v = c.args.v in
    let written = pair_written s.n s.bits.items u v c.place-here.result c.place-there.result c.index_mut.result.now c.index_mut-2.result.now
    c.place-here.ensures.value c.place-there.ensures.value c.place-here.ensures.within c.place-there.ensures.within c.index_mut.ensures.value c.index_mut-2.ensures.value in
    let k = pair_keeps s.n s.bits.items u v c.requires.persons.0 c.requires.persons.1 c.requires.two s.room (record { room = s.room; mirror = s.mirror; apart = s.apart; spare = s.spare }) _ written in
    record { few = s.few; room = k.room; mirror = k.mirror; apart = k.apart; spare = k.spare }
