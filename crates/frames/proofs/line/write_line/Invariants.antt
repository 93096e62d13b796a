use Rattle.std.proofs.Common.{◌≡◌, ◌-◌, ◌*◌, ◌++◌, take, replicate}
use Rattle.frames.specs.Lines.{line_of}
use Rattle.frames.proofs.line.write_line.Given as goal

abbrev pub invariant-loop-i : goal.invariant-loop-i
invariant-loop-i l = l.text ≡ line_of (take l.i l.bytes) ++ replicate (64 - 2 * l.i) 0
