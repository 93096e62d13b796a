use Rattle.std.proofs.Common.{◌≡◌, ◌-◌, ◌*◌, ◌++◌, length, take, drop, replicate}
use Rattle.frames.specs.Lines.{all_digits, bytes_in}
use Rattle.frames.proofs.line.read_line.Given as goal

abbrev pub invariant-loop-i : goal.invariant-loop-i
invariant-loop-i l =
    (length l.bytes ≡ 32) × (drop l.i l.bytes ≡ replicate (32 - l.i) 0)
    × (bytes_in l.line ≡ take l.i l.bytes ++ bytes_in (drop (2 * l.i) l.line)) × (all_digits l.line ≡ all_digits (drop (2 * l.i) l.line))
