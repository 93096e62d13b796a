use Rattle.std.proofs.Common.{ap, ◌∙◌, arith}
use Rattle.std.proofs.lemmas.List.{with_items_is}
use Rattle.networks.specs.Places.{filled}
use Rattle.rows.proofs.Clearing.{kept_cleared}
use Rattle.rows.proofs.tidy.TidyRows.cleared.Goals as goal

pub invariant_of-result : goal.invariant_of-result
invariant_of-result c =
    let a = c.args in
    let after = with_items_is a.counts c.fill_front.new.places (omega arith) ∙ c.fill_front.ensures ∙ ap (filled a.n 0) c.deref_mut.ensures.value in
    let kept = kept_cleared a.n a.span a.counts.items a.cells.items _ after c.requires.counted c.requires.roomy in
    record { few = c.requires.few; narrow = c.requires.narrow; counted = kept.counted; roomy = kept.roomy; within = kept.within; listed = kept.listed }
