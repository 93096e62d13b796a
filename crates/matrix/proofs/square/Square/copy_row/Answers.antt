use Rattle.std.proofs.Common.{◌≡◌, ◌+◌, ◌*◌, min, ◌++◌, length, drop, filter, sym, ap, ◌∙◌, ap₂, arith, rules}
use Rattle.std.specs.List.{range_with_len}
use Rattle.std.proofs.lemmas.List.{length-append}
use Rattle.grades.specs.Places.{onto}
use Rattle.grades.proofs.Fronts.{onto_nil}
use Rattle.networks.proofs.Rising.{kept_append}
use Rattle.matrix.specs.Bits.{row_of, bit_at}
use Rattle.matrix.specs.Words.{set_bits}
use Rattle.matrix.proofs.Strips.{cut_rest, strip_kept, onto_part}
use Rattle.matrix.proofs.square.Square.copy_row.Goals as goal

pub loop-i-init : goal.loop-i-init
loop-i-init c =
    let s = c.args.self.now in
    let start : c.into_iter-i-iterator.result.count ≡ 0 = search rules in
    let rest : c.into_iter-i-iterator.result.iter.rest.now ≡ row_of s.n s.bits.items c.args.u = search rules in
    let none = ap (λ m. filter (bit_at s.n s.bits.items c.args.u) (range_with_len 0 (64 * m))) start in
    record {
      left = rest ∙ sym (ap (λ m. drop (8 * m) (row_of s.n s.bits.items c.args.u)) start);
      size = search rules;
      counted = sym (ap length none);
      copied = sym (ap (λ t. onto t c.args.places.now) none ∙ onto_nil c.args.places.now);
    }

pub loop-i-preserved : goal.loop-i-preserved
loop-i-preserved c =
    let s = c.args.self.now in
    let u = c.args.u in
    let m = c.loop-i.i-iterator.count in
    let inv = c.loop-i.invariant in
    let steps = c.in-Some.ensures.steps in
    let p = bit_at s.n s.bits.items u in
    let seen = filter p (range_with_len 0 (64 * m)) in
    let new = set_bits 64 (64 * c.in-Some.i) c.word.result in
    let cut = sym inv.left ∙ steps.0.1.0 in
    let long = steps.0.1.1 ∙ ap₂ min inv.size (ap length inv.left) in
    let at : c.min-at.result ≡ min c.loop-i.count (length c.loop-i.places) = search rules in
    let strip : new ≡ filter p (range_with_len (64 * m) 64) =
    ap (λ k. set_bits 64 (64 * k) c.word.result) steps.1
    ∙ strip_kept s.n s.bits.items u s.room m s.spare c.in-Some.bytes.now _ c.word.result cut long (omega (arith, ap length inv.left, steps.0.1.2)) c.word.ensures in
    let next : 64 * m + 64 ≡ 64 * c.next.new.self.count = omega (arith, steps.2) in
    let all : seen ++ new ≡ filter p (range_with_len 0 (64 * c.next.new.self.count)) =
    ap (λ t. seen ++ t) strip ∙ sym (kept_append p (64 * m) 64) ∙ ap (λ k. filter p (range_with_len 0 k)) next in
    record {
      left = cut_rest (row_of s.n s.bits.items u) c.in-Some.bytes.now _ m cut long ∙ ap (λ k. drop (8 * k) (row_of s.n s.bits.items u)) (sym steps.2);
      size = steps.0.0 ∙ inv.size;
      counted = ap₂ (λ a b. a + b) inv.counted c.copy_set_bits-count.ensures.count ∙ sym (length-append seen new) ∙ ap length all;
      copied = onto_part seen new c.args.places.now c.loop-i.places c.copy_set_bits-count.new.places c.min-at.result inv.copied (at ∙ ap (λ k. min k (length c.loop-i.places)) inv.counted) c.copy_set_bits-count.ensures.copied
          ∙ ap (λ t. onto t c.args.places.now) all;
    }
