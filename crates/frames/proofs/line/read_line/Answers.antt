use Rattle.std.proofs.Common.{◌≡◌, ◌+◌, ◌*◌, ◌/◌, ◌<◌, false, length, Err, sym, ap, ◌∙◌, arith}
use Rattle.std.proofs.lemmas.List.{length-set}
use Rattle.std.proofs.lemmas.Result.{err_from_is_err_and}
use Rattle.frames.specs.Lines.{wrong_size}
use Rattle.frames.proofs.Spelling.{high, low, right_size, digit_ok, digit_err, bytes_more, digits_more, bad_high, bad_low, zeros_more, refused, accepted}
use Rattle.frames.proofs.line.read_line.Goals as goal

pub returns-in_err-high : goal.returns-in_err-high
returns-in_err-high c =
    let cs = c.args.line.now in
    let n = c.as_chunks.ensures.front_len in
    let p = err_from_is_err_and c.from_residual.result c.from_residual.ensures.1 in
    let q = digit_err (high c.as_chunks.result.0.now c.loop-i.i) _ c.in_err-high.ensures.value in
    let bad = bad_high c.as_chunks.result.0.now cs c.loop-i.i c.as_chunks.ensures.front (omega arith) c.loop-i.invariant.3 q.0 in
    let o = refused c.args.frame.now cs _ (p.1 ∙ ap Err (p.2 ∙ q.1)) (sym c.if-wrong_size.ensures) bad in
    record { answer = o.answer; after = o.after }

pub returns-in_err-low : goal.returns-in_err-low
returns-in_err-low c =
    let cs = c.args.line.now in
    let n = c.as_chunks.ensures.front_len in
    let p = err_from_is_err_and c.from_residual-in_err-low.result c.from_residual-in_err-low.ensures.1 in
    let good = digit_ok (high c.as_chunks.result.0.now c.loop-i.i) _ c.in_ok-high.ensures.value in
    let q = digit_err (low c.as_chunks.result.0.now c.loop-i.i) _ c.in_err-low.ensures.value in
    let bad = bad_low c.as_chunks.result.0.now cs c.loop-i.i c.as_chunks.ensures.front (omega arith) c.loop-i.invariant.3 good.0 q.0 in
    let o = refused c.args.frame.now cs _ (p.1 ∙ ap Err (p.2 ∙ q.1)) (sym c.if-wrong_size.ensures) bad in
    record { answer = o.answer; after = o.after }

pub loop-i-preserved : goal.loop-i-preserved
loop-i-preserved c =
    let cs = c.args.line.now in
    let i = c.loop-i.i in
    let bs = c.loop-i.bytes in
    let pairs = c.as_chunks.result.0.now in
    let front = c.as_chunks.ensures.front in
    let n = c.as_chunks.ensures.front_len in
    let h : i < length cs / 2 = omega arith in
    let w = right_size (length cs) (sym c.if-wrong_size.ensures) in
    let v = c.in_ok-high.high * 16 + c.in_ok-low.low in
    let p = digit_ok (high c.as_chunks.result.0.now c.loop-i.i) _ c.in_ok-high.ensures.value in
    let q = digit_ok (low c.as_chunks.result.0.now c.loop-i.i) _ c.in_ok-low.ensures.value in (
      length-set bs i v ∙ c.loop-i.invariant.0,
      zeros_more bs i v c.loop-i.invariant.1,
      bytes_more pairs cs i front h bs _ _ (omega arith) p.1 q.1 c.loop-i.invariant.2,
      digits_more pairs cs i front h c.loop-i.invariant.3 p.0 q.0,
    )

pub returns : goal.returns
returns c =
    let cs = c.args.line.now in
    let s : wrong_size (length cs) ≡ false = sym c.if-wrong_size.ensures in
    let n = c.as_chunks.ensures.front_len in
    let e : c.loop-i.i ≡ length cs / 2 = omega arith in
    let i = c.loop-i.invariant in
    let o = accepted c.args.frame.now c.loop-i.bytes cs s i.0 (rw e at i.1) (rw e at i.2) (rw e at i.3) in
    record { answer = o.answer; after = ap (λ k. record { bytes = c.loop-i.bytes; len = k }) n ∙ o.after }
