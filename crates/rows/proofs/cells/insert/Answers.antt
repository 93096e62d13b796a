use Rattle.std.proofs.Common.{set, ap, ◌∙◌}
use Rattle.rows.proofs.Places.{pasted_up}
use Rattle.rows.proofs.cells.insert.Goals as goal

pub returns : goal.returns
returns c = ap (λ t. set t c.args.at c.args.v) c.copy_within.ensures.after ∙ pasted_up c.args.row.now c.args.at c.args.v c.requires
