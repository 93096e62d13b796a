use Rattle.std.proofs.Common.{◌<◌, arith}
use Rattle.std.proofs.lemmas.Grind.{common_steps}
use Rattle.std.proofs.lemmas.List.{length-take}
use lib.Count.{ones}
use Rattle.networks.proofs.Rising.{nth_next}
use Rattle.matrix.specs.Words.{set_bits}
use Rattle.matrix.proofs.Digits.{ones_set, left_some, left_next}
use Rattle.matrix.proofs.words.copy_set_bits.Goals as goal

pub overflow_sub-left : goal.overflow_sub-left
overflow_sub-left c =
    let w = c.args.word in
    let i = c.loop-place.place-index in
    let l : i < ones w = omega (arith, length-take c.min-shown.result c.args.places.now) in
    left_some c.args.from w c.loop-place.left i (omega arith) l c.loop-place.invariant.left

pub loop-place-preserved : goal.loop-place-preserved
loop-place-preserved c =
    let w = c.args.word in
    let i = c.loop-place.place-index in
    let all = set_bits 64 c.args.from w in
    let few = length-take c.min-shown.result c.args.places.now in
    let l : i < ones w = omega arith in
    let next = left_next c.args.from w c.loop-place.left i (omega arith) (omega arith) l c.loop-place.invariant.left in
    record { left = next.1; written = nth_next all c.loop-place.place-items i _ (omega (arith, ones_set 64 c.args.from w (omega arith))) (omega arith) next.0 c.loop-place.invariant.written }

pub returns : goal.returns
returns c =
    let count = ones_set 64 c.args.from c.args.word (omega arith) in
    record { count = count; copied = grind (arith, common_steps) }
