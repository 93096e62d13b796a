use Rattle.std.proofs.Common.{◌≡◌, ◌+◌, ◌%◌, arith, rules}
use Rattle.std.specs.List.{fold}
use Rattle.std.proofs.iter.runs.Made.{chains}
use Rattle.frames.proofs.Checks.{fold_total}
use Rattle.frames.proofs.frame.sum.Goals as goal

pub returns : goal.returns
returns c =
    let e : c.fold.result ≡ fold (λ sum b. (sum + b) % 256) 0 c.args.bytes.now = search (rules, chains) in
    let f = fold_total c.args.bytes.now 0 (omega arith) in
    omega arith
