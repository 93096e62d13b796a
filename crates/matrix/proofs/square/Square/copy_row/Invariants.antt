use Rattle.std.proofs.Common.{◌≡◌, ◌*◌, length, drop, filter}
use Rattle.std.specs.List.{range_with_len}
use Rattle.grades.specs.Places.{onto}
use Rattle.matrix.specs.Bits.{row_of, bit_at}
use Rattle.matrix.proofs.square.Square.copy_row.Given as goal

abbrev pub invariant-loop-i : goal.invariant-loop-i
invariant-loop-i l =
    let n = l.self.n in
    let bits = l.self.bits.items in
    let strips = l.i-iterator.count in
    let seen = filter (bit_at n bits l.u) (range_with_len 0 (64 * strips)) in
    record {
      left : l.i-iterator.iter.rest.now ≡ drop (8 * strips) (row_of n bits l.u);
      size : l.i-iterator.iter.size ≡ 8;
      counted : l.count ≡ length seen;
      copied : l.places ≡ onto seen l.initial.places;
    }
