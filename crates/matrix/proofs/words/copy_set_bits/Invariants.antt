use Rattle.std.proofs.Common.{◌≡◌, take, drop}
use Rattle.matrix.specs.Words.{set_bits}
use Rattle.matrix.proofs.words.copy_set_bits.Given as goal

abbrev pub invariant-loop-place : goal.invariant-loop-place
invariant-loop-place l =
    let all = set_bits 64 l.from l.word in
    record { left : set_bits 64 l.from l.left ≡ drop l.place-index all; written : take l.place-index l.place-items ≡ take l.place-index all }
