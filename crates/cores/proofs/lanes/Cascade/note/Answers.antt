use Rattle.std.proofs.Common.{◌∙◌, inr, arith}
use Rattle.std.proofs.lemmas.List.Folds.{list_any_at}
use Rattle.cores.specs.Lanes.{alive}
use Rattle.cores.proofs.Alive.{alive_read, alive_read_not, alive_within}
use Rattle.cores.proofs.Numbered.{noted_yes, noted_no}
use Rattle.cores.proofs.lanes.Cascade.note.Goals as goal
use Rattle.cores.proofs.lanes.Cascade.note.Goals.{then-mark-eq0, else-mark-eq0}

pub loop-v-preserved : goal.loop-v-preserved
loop-v-preserved c =
    let fell = c.args.self.now.fell.now in
    let v = c.loop-v.v in
    elim c.if-mark-eq0.branch [
      | then-mark-eq0 w ↦ rw w.row-is (noted_yes (alive fell) c.args.k v c.args.row.now c.loop-v.row (omega arith) (alive_read fell v c.loop-v-test.true w.if-mark-eq0.true) c.loop-v.invariant)
      | else-mark-eq0 w ↦ rw w.row-is (noted_no (alive fell) c.args.k v c.args.row.now c.loop-v.row (alive_read_not fell v c.loop-v-test.true w.if-mark-eq0.false) c.loop-v.invariant)
    ]

pub returns-clause-some : goal.returns-clause-some
unfolding alive
returns-clause-some c = λ v m. c.contains.ensures.value ∙ list_any_at _ c.args.self.now.fell.now v 1 (alive_within c.args.self.now.fell.now v m) m

pub returns-clause-written : goal.returns-clause-written
returns-clause-written c = λ v m. c.loop-v.invariant.written v (omega (arith, alive_within c.args.self.now.fell.now v m, c.loop-v-test.false)) m

pub returns-clause-rest : goal.returns-clause-rest
returns-clause-rest c = λ v n. c.loop-v.invariant.others v (inr n)
