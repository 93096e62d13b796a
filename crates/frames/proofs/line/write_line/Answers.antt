use Rattle.std.proofs.Common.{◌≡◌, ◌≤◌, length, ap, ◌∙◌, arith, rules}
use Rattle.std.proofs.lemmas.List.{length-take}
use Rattle.frames.specs.Lines.{line_of, typed}
use Rattle.frames.proofs.Spelling.{line_more, line_all}
use Rattle.frames.proofs.line.write_line.Goals as goal

pub loop-i-preserved : goal.loop-i-preserved
loop-i-preserved c =
    let frame = c.args.frame.now in
    let all : length frame.bytes ≡ 32 = search rules in
    let held = ap length c.contents-bytes.ensures ∙ length-take frame.len frame.bytes in
    let few : length c.contents-bytes.result.now ≤ 32 = omega arith in
    line_more c.contents-bytes.result.now c.loop-i.text c.loop-i.i c.letter.result c.letter-in-loop-i.result (omega arith) (omega arith) c.letter.ensures c.letter-in-loop-i.ensures c.loop-i.invariant

pub returns : goal.returns
returns c = line_all c.contents-bytes.result.now c.loop-i.text c.loop-i.i (omega arith) c.loop-i.invariant ∙ ap (λ bs. typed (line_of bs)) c.contents-bytes.ensures
