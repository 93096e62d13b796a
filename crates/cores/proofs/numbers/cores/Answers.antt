use Rattle.std.proofs.Common.{length, arith}
use Rattle.grades.specs.Places.{onto}
use Rattle.meaning.specs.Persons.{cores_of}
use Rattle.cores.specs.Answer.{cores_fault}
use Rattle.cores.proofs.Numbered.{numbers_list, cores_open, opened}
use Rattle.cores.proofs.numbers.cores.Goals as goal

pub returns : goal.returns
returns g c =
    let net = g.N.Network.meaning c.args.net.now in
    let n = net.persons in
    let scratch = length c.args.scratch.now in
    let places = length c.args.row.now in
    let o = opened (cores_fault n scratch places) (cores_open n scratch places (omega (arith, c.persons-n.ensures)) (omega (arith, c.persons-n.ensures)))
    c.number_all.new.row (onto (cores_of net) c.args.row.now) c.args.row.now c.args.scratch.now _
    (numbers_list net c.args.row.now c.number_all.new.row (omega arith) (omega (arith, c.persons-n.ensures)) c.number_all.ensures.numbers c.number_all.ensures.rest) in
    record { answer = o.0; numbers = o.1; kept = o.2 }
