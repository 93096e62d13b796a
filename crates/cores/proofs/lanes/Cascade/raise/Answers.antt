use Rattle.std.proofs.Common.{◌≡◌, length, get_or, replicate, ap, ◌∙◌, arith, rules}
use Rattle.std.proofs.lemmas.List.{get_or-replicate}
use Rattle.cores.proofs.Fitting.{raised}
use Rattle.cores.proofs.Near.{degree_le}
use Rattle.cores.proofs.lanes.Cascade.raise.Goals as goal

pub overflow_cast-degree : goal.overflow_cast-degree
overflow_cast-degree g c =
    let few = (g.N.Network.sound c.args.net.now).few in
    let a = degree_le (g.N.Network.meaning c.args.net.now) c.loop-u.u in
    let b = c.degree.ensures in
    search rules

pub returns-after-loop-u-clause-raised : goal.returns-after-loop-u-clause-raised
returns-after-loop-u-clause-raised g c = λ _.
    let net = g.N.Network.meaning c.args.net.now in
    let zeros : c.fill.new.self ≡ replicate (length c.args.self.now.fell.now) 0 = search rules in
    raised net c.fill.new.self c.loop-u.degree-items (omega (arith, c.fill.ensures.len, c.if-self-n.true, c.persons-n.ensures)) (λ v i. ap (λ xs. get_or xs v 0) zeros ∙ get_or-replicate (length c.args.self.now.fell.now) v 0 0 (omega (arith, c.if-self-n.true, c.persons-n.ensures))) (λ v i. c.loop-u.invariant v (omega (arith, c.loop-u-test.false, c.if-self-n-2.true, c.persons-n.ensures)))
