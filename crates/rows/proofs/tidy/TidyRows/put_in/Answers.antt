use Rattle.std.proofs.Common.{◌<◌, ◌≤◌, length, ap, ◌∙◌, arith, rules}
use Rattle.rows.specs.Row.{place_of}
use Rattle.rows.proofs.Keeping.{lies}
use Rattle.rows.proofs.Linking.{put_becomes}
use Rattle.rows.proofs.Standing.{place_within}
use Rattle.rows.proofs.tidy.TidyRows.put_in.Goals as goal

pub insert-requires : goal.insert-requires
insert-requires c =
    let l = lies c.args.self.now c.args.u c.requires.known in
    let few : length c.row-row.result.now < c.args.self.now.span = omega (arith, ap length c.row-row.ensures.value) in
    let within : c.place-at.result ≤ length c.row-row.result.now = omega (arith, place_within c.args.v c.row-row.result.now) in
    search rules

pub invariant_of-self : goal.invariant_of-self
invariant_of-self c =
    let s = c.args.self.now in
    let e = c.row-row.ensures.value in
    let to = put_becomes s c.args.u c.args.v c.requires.known c.requires.other_known c.place-at.result (length c.row-row.result.now) c.index_mut.result.now c.deref_mut.result.now c.insert.new.row
    (ap length e) c.index_mut.ensures.value c.deref_mut.ensures.value (c.place-at.ensures ∙ ap (place_of c.args.v) e) c.requires.free c.requires.room c.insert.ensures in
    record { few = s.few; narrow = s.narrow; counted = to.kept.counted; roomy = to.kept.roomy; within = to.kept.within; listed = to.kept.listed }

pub returns : goal.returns
returns c =
    let s = c.args.self.now in
    let e = c.row-row.ensures.value in
    let to = put_becomes s c.args.u c.args.v c.requires.known c.requires.other_known c.place-at.result (length c.row-row.result.now) c.index_mut.result.now c.deref_mut.result.now c.insert.new.row
    (ap length e) c.index_mut.ensures.value c.deref_mut.ensures.value (c.place-at.ensures ∙ ap (place_of c.args.v) e) c.requires.free c.requires.room c.insert.ensures in
    record { linked = to.linked; framed = to.framed }
