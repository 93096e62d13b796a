-- The table is `table_length` counted out: antt computes both, entry by entry.
use Rattle.std.proofs.Common.{◌<◌, ◌∙◌, arith, rules}
use Rattle.std.proofs.lemmas.List.FromFn.{get_or-map-range_with_len}
use Rattle.frames.specs.Kinds.{table_length}
use Rattle.frames.proofs.kinds.table_length.Goals as goal

pub returns : goal.returns
returns c =
    let h : c.args.kind < 256 = search rules in
    let e = c.from.ensures in
    c.from-2.ensures ∙ get_or-map-range_with_len table_length 0 256 c.from.result c.args.kind 0 (omega arith) (omega arith)
