use Rattle.std.proofs.Common.{◌≡◌, ◌+◌, ◌≤◌, ◌∷◌, length, sym, refl, ap, ◌∙◌, arith, rules}
use Rattle.frames.specs.Frames.{bytes16}
use Rattle.frames.specs.Lines.{padded}
use Rattle.frames.specs.Requests.{request_bytes}
use Rattle.frames.proofs.Sealing.{part_more}
use Rattle.frames.proofs.request.RequestMessage.row.Goals as goal

pub returns-in-Regrade-clause-bytes : goal.returns-in-Regrade-clause-bytes
returns-in-Regrade-clause-bytes g c =
    let put = g.G.Wire.bytes_of in
    let grade = c.in-Regrade.grade in
    let sized = g.met.G.Wire.sized grade in
    let narrow = g.met.G.Wire.narrow in
    let few : 3 + length (put grade) ≤ 32 = omega arith in
    let front : c.row-bytes.result ≡ padded (2 ∷ bytes16 c.in-Regrade.person) = search rules in
    part_more (2 ∷ bytes16 c.in-Regrade.person) (put grade) c.row-bytes.result c.write.new.places 3 refl few front c.write.ensures.written ∙ ap (λ q. padded (request_bytes put q)) (sym c.in-Regrade.is)
