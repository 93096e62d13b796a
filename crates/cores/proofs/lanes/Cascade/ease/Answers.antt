use Rattle.std.proofs.Common.{◌∙◌, arith}
use Rattle.cores.specs.Lent.{lanes_of}
use Rattle.cores.proofs.Settling.{eased_stays, eased_lowers, eased_falls}
use Rattle.cores.proofs.lanes.Cascade.ease.Goals as goal

pub returns-then-left-k-clause-eased : goal.returns-then-left-k-clause-eased
returns-then-left-k-clause-eased c =
    c.let_fall.ensures.fell ∙ rw c.saturating_sub-left.ensures (eased_falls c.args.k c.args.mark c.args.x (lanes_of c.args.self.now) c.requires.fell c.if-self-v-eq0.true (omega (arith, c.saturating_sub-left.ensures, c.if-left-k.true)))

pub returns-else-left-k-clause-eased : goal.returns-else-left-k-clause-eased
returns-else-left-k-clause-eased c =
    rw c.saturating_sub-left.ensures (eased_lowers c.args.k c.args.mark c.args.x (lanes_of c.args.self.now) c.requires.fell c.if-self-v-eq0.true (omega (arith, c.saturating_sub-left.ensures, c.if-left-k.false)))

pub returns-else-self-v-eq0-clause-eased : goal.returns-else-self-v-eq0-clause-eased
returns-else-self-v-eq0-clause-eased c = eased_stays c.args.k c.args.mark c.args.x (lanes_of c.args.self.now) c.requires.fell c.if-self-v-eq0.false
