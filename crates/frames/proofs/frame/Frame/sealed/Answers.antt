use Rattle.frames.proofs.Sealing.{sealed}
use Rattle.frames.proofs.frame.Frame.sealed.Goals as goal

pub returns : goal.returns
returns c = λ xs l e. sealed xs c.args.self.bytes c.args.self.len c.check_byte.result c.requires.room l e c.check_byte.ensures
