use Rattle.std.proofs.Common.{◌≡◌, ◌+◌, [], ◌∷◌, ◌++◌, length, get_or, take, sym, ap, ◌∙◌, arith}
use Rattle.std.specs.List.{flat_map}
use Rattle.std.proofs.lemmas.Grind.{flat_map-append}
use Rattle.std.proofs.lemmas.List.{append-nil, length-append, take_more}
use Rattle.std.proofs.lemmas.List.Folds.{length-flat_map-take}
use Rattle.frames.specs.Lines.{padded}
use Rattle.frames.proofs.Sealing.{part_more}
use Rattle.frames.proofs.rows.row.Goals as goal

pub slice_bounds-write_front-count : goal.slice_bounds-write_front-count
slice_bounds-write_front-count c =
    let few = length-flat_map-take (λ part. part.now) c.args.parts.now c.loop-part.part-index (record { ref_ptr = (0, 0); now = [] }) c.loop-part-test.true in
    let all = c.requires in
    let e = c.loop-part.invariant.0 in
    omega arith

pub loop-part-preserved : goal.loop-part-preserved
loop-part-preserved c =
    let parts = c.args.parts.now in
    let i = c.loop-part.part-index in
    let part = get_or parts i (record { ref_ptr = (0, 0); now = [] }) in
    let front = flat_map (λ p. p.now) (take i parts) in
    let few = length-flat_map-take (λ p. p.now) parts i (record { ref_ptr = (0, 0); now = [] }) c.loop-part-test.true in
    let all = c.requires in
    let long = c.loop-part.invariant.0 in
    let more : flat_map (λ p. p.now) (take (i + 1) parts) ≡ front ++ part.now =
    ap (flat_map (λ p. p.now)) (take_more parts i (record { ref_ptr = (0, 0); now = [] }) c.loop-part-test.true)
    ∙ flat_map-append (λ p. p.now) (take i parts) (part ∷ []) ∙ ap (λ t. front ++ t) (append-nil part.now) in (
      ap (λ n. n + length part.now) long ∙ sym (length-append front part.now) ∙ ap length (sym more),
      part_more front part.now c.loop-part.bytes c.write_front.new.places c.loop-part.len (sym long) (omega arith) c.loop-part.invariant.1 c.write_front.ensures ∙ ap padded (sym more),
    )
