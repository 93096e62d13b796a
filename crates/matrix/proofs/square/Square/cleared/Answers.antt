use Rattle.std.proofs.Common.{◌*◌, sym, ap, ◌∙◌, subst, arith}
use Rattle.std.proofs.lemmas.List.{with_items_is}
use Rattle.networks.specs.Places.{filled}
use Rattle.matrix.specs.Bits.{stride}
use Rattle.matrix.proofs.Pairs.{Kept}
use Rattle.matrix.proofs.Clears.{cleared_keeps}
use Rattle.matrix.proofs.square.Square.cleared.Goals as goal

pub invariant_of-result : goal.invariant_of-result
invariant_of-result c =
    let n = c.args.n in
    let bits = c.args.bits in
    let stored = with_items_is bits c.fill_front.new.places (omega arith) ∙ c.fill_front.ensures ∙ ap (λ k. filled (n * k) 0 c.deref_mut.result.now) c.stride.ensures ∙ ap (filled (n * stride n) 0) c.deref_mut.ensures.value in
    let k = subst (Kept n) (sym stored) (cleared_keeps n bits.items c.requires.room) in
    record { few = c.requires.few; room = k.room; mirror = k.mirror; apart = k.apart; spare = k.spare }
