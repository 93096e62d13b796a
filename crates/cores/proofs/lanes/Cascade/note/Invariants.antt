use Rattle.cores.specs.Lanes.{alive}
use Rattle.cores.specs.Answer.{Noted}
use Rattle.cores.proofs.lanes.Cascade.note.Given as goal

abbrev pub invariant-loop-v : goal.invariant-loop-v
invariant-loop-v l = Noted (alive l.self.fell.now) l.k l.v l.initial.row l.row
