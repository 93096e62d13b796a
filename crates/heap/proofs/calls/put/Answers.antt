use Rattle.std.proofs.Common.{arith}
use Rattle.heap.proofs.Standing.{holds_put}
use Rattle.heap.proofs.calls.put.Goals as goal

pub returns-clause-stands : goal.returns-clause-stands
returns-clause-stands g c =
    holds_put g.T.Ordered.at_most c.args.places.now c.sift_up.new.row c.args.waiting c.args.x (omega arith) c.sift_up.ensures.same c.sift_up.ensures.heap
