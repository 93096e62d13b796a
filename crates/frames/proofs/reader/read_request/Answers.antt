use Rattle.std.proofs.Common.{ap, ◌∙◌}
use Rattle.frames.specs.Exact.{refusal_in}
use Rattle.frames.specs.Kinds.{is_request, length_of}
use Rattle.frames.specs.Requests.{request_of}
use Rattle.frames.proofs.Faithful.{refusal_of_lem}
use Rattle.frames.proofs.Meant.{request_meant}
use Rattle.frames.proofs.reader.read_request.Goals as goal

pub returns-clause-refusal : goal.returns-clause-refusal
returns-clause-refusal g c =
    let get = g.G.Wire.grade_of in
    let size = g.G.Grade.WIDTH in
    ap refusal_in c.read.ensures.answer ∙ refusal_of_lem is_request (length_of size) (request_of get size) (request_meant get size g.met.G.Wire.known) c.args.line.now
