use Rattle.cores.specs.Lanes.{alive}
use Rattle.cores.specs.Lent.{lanes_of}
use Rattle.cores.proofs.lanes.Cascade.shrink.Goals as goal

pub returns-then-fits-clause-fallen : goal.returns-then-fits-clause-fallen
returns-then-fits-clause-fallen g c = λ _ r. c.follow.ensures.fallen (alive c.args.self.now.fell.now) (lanes_of c.args.self.now) (c.drop_weak.ensures.falling r)
