use Rattle.std.proofs.Common.{◌≡◌, take}
use Rattle.rows.proofs.cells.copy.Given as goal

abbrev pub invariant-loop-i : goal.invariant-loop-i
invariant-loop-i l = take l.i l.place-items ≡ take l.i l.row
