use Rattle.std.proofs.Common.{◌≡◌, length, take}
use Rattle.std.specs.List.{flat_map}
use Rattle.frames.specs.Lines.{padded}
use Rattle.frames.proofs.rows.row.Given as goal

abbrev pub invariant-loop-part : goal.invariant-loop-part
invariant-loop-part l =
    let front = flat_map (λ part. part.now) (take l.part-index l.parts) in
    (l.len ≡ length front) × (l.bytes ≡ padded front)
