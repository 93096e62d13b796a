use Rattle.std.proofs.Common.{◌≡◌, Err, sym, ap, ◌∙◌}
use Rattle.std.proofs.lemmas.Result.{err_from_is_err_and}
use Rattle.frames.specs.Frames.{kind_in, frame_fault}
use Rattle.frames.specs.Lines.{bytes_in, held}
use Rattle.frames.proofs.Faithful.{Faithful, read_refused, kind_refused, frame_refused, frame_passed, told, told_passed}
use Rattle.frames.proofs.reader.read.Given as given
use Rattle.frames.proofs.reader.read.Goals as goal

faithful : (g : given.Over) → Faithful g.M.Message.known g.M.Message.long g.M.Message.meaning g.M.Message.bytes g.M.Message.Fits
faithful g = record {
  bytes = g.met.M.Message.whole;
  kind = λ q. ap g.M.Message.known (g.met.M.Message.first q) ∙ g.met.M.Message.numbered q;
  size = λ q. g.met.M.Message.sized q ∙ ap g.M.Message.long (sym (g.met.M.Message.first q));
  some = g.met.M.Message.some;
  room = g.met.M.Message.room;
  back = g.met.M.Message.back;
  ranged = g.met.M.Message.ranged;
  forth = g.met.M.Message.forth;
}

pub returns-in_err-read_line : goal.returns-in_err-read_line
returns-in_err-read_line g c =
    let m = g.M.Message in
    let cs = c.args.line.now in
    let bs = bytes_in cs in
    let p = err_from_is_err_and c.from_residual.result c.from_residual.ensures.1 in
    let a = read_refused cs (frame_fault (m.known (kind_in bs)) (m.long (kind_in bs)) bs) (m.meaning bs) _ _ (p.1 ∙ ap Err p.2) c.in_err-read_line.ensures.answer in
    let t = told m.known m.long m.meaning m.bytes m.Fits (faithful g) cs c.from_residual.result a in
    record { answer = t.answer; exact = t.exact }

pub returns-in_err-kind : goal.returns-in_err-kind
returns-in_err-kind g c =
    let m = g.M.Message in
    let frame = c.read_line.new.frame in
    let p = err_from_is_err_and c.from_residual-in_err-kind.result c.from_residual-in_err-kind.ensures.1 in
    let k = g.met.M.Message.kinds _ _ c.in_err-kind.ensures in
    let b : c.byte_at.result ≡ kind_in (held frame) = c.byte_at.ensures in
    let e = kind_refused m.known m.long m.meaning (held frame) c.from_residual-in_err-kind.result (p.1 ∙ ap Err (p.2 ∙ k.0)) (ap m.known (sym b) ∙ k.1) in
    let t = told_passed m.known m.long m.meaning m.bytes m.Fits (faithful g) _ frame c.args.line.now c.from_residual-in_err-kind.result c.in_ok-read_line.ensures.answer c.read_line.ensures.after e in
    record { answer = t.answer; exact = t.exact }

pub returns-in_err-check : goal.returns-in_err-check
returns-in_err-check g c =
    let m = g.M.Message in
    let frame = c.read_line.new.frame in
    let p = err_from_is_err_and c.from_residual-in_err-check.result c.from_residual-in_err-check.ensures.1 in
    let k = g.met.M.Message.kinds _ _ c.in_ok-kind.ensures in
    let b : c.byte_at.result ≡ kind_in (held frame) = c.byte_at.ensures in
    let e = frame_refused m.known m.long m.meaning (held frame) c.length.result c.from_residual-in_err-check.result _ (p.1 ∙ ap Err p.2) (ap m.known (sym b) ∙ k.1) (c.length.ensures ∙ ap m.long (k.0 ∙ b)) c.in_err-check.ensures in
    let t = told_passed m.known m.long m.meaning m.bytes m.Fits (faithful g) _ frame c.args.line.now c.from_residual-in_err-check.result c.in_ok-read_line.ensures.answer c.read_line.ensures.after e in
    record { answer = t.answer; exact = t.exact }

pub returns : goal.returns
returns g c =
    let m = g.M.Message in
    let frame = c.read_line.new.frame in
    let k = g.met.M.Message.kinds _ _ c.in_ok-kind.ensures in
    let b : c.byte_at.result ≡ kind_in (held frame) = c.byte_at.ensures in
    let e = frame_passed m.known m.long m.meaning (held frame) c.length.result c.read.result (ap m.known (sym b) ∙ k.1) (c.length.ensures ∙ ap m.long (k.0 ∙ b)) c.in_ok-check.ensures c.read.ensures in
    let t = told_passed m.known m.long m.meaning m.bytes m.Fits (faithful g) _ frame c.args.line.now c.read.result c.in_ok-read_line.ensures.answer c.read_line.ensures.after e in
    record { answer = t.answer; exact = t.exact }
