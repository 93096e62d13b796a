use Rattle.std.proofs.Common.{◌<◌, length, ap, ◌∙◌, arith, rules}
use Rattle.rows.specs.Row.{place_of}
use Rattle.rows.proofs.Keeping.{lies}
use Rattle.rows.proofs.Linking.{take_becomes, place_inside}
use Rattle.rows.proofs.tidy.TidyRows.take_out.Goals as goal

pub remove-requires : goal.remove-requires
remove-requires c =
    let s = c.args.self.now in
    let l = lies s c.args.u c.requires.known in
    let e = c.row-row.ensures.value in
    let few = ap length e in
    let inside : c.place-at.result < length c.row-row.result.now = omega (arith, ap (place_of c.args.v) e, place_inside s c.args.u c.args.v c.requires.known c.requires.other_known c.requires.held) in
    search rules

pub invariant_of-self : goal.invariant_of-self
invariant_of-self c =
    let s = c.args.self.now in
    let e = c.row-row.ensures.value in
    let to = take_becomes s c.args.u c.args.v c.requires.known c.requires.other_known c.place-at.result (length c.row-row.result.now) c.index_mut.result.now c.deref_mut.result.now c.remove.new.row
    (ap length e) c.index_mut.ensures.value c.deref_mut.ensures.value (c.place-at.ensures ∙ ap (place_of c.args.v) e) c.requires.held c.remove.ensures in
    record { few = s.few; narrow = s.narrow; counted = to.kept.counted; roomy = to.kept.roomy; within = to.kept.within; listed = to.kept.listed }

pub returns : goal.returns
returns c =
    let s = c.args.self.now in
    let e = c.row-row.ensures.value in
    let to = take_becomes s c.args.u c.args.v c.requires.known c.requires.other_known c.place-at.result (length c.row-row.result.now) c.index_mut.result.now c.deref_mut.result.now c.remove.new.row
    (ap length e) c.index_mut.ensures.value c.deref_mut.ensures.value (c.place-at.ensures ∙ ap (place_of c.args.v) e) c.requires.held c.remove.ensures in
    record { linked = to.linked; framed = to.framed }
