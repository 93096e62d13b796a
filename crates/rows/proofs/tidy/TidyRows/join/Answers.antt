use Rattle.std.proofs.Common.{◌&&◌, ◌||◌, eqb, length, filter, sym, ap, ◌∙◌, ap₂, arith}
use mathlib.Core.Path.{fun_ext}
use Rattle.std.specs.List.{range_with_len}
use Rattle.std.proofs.lemmas.Bool.{and_left, ne_eqb}
use Rattle.rows.specs.Tidy.{links}
use Rattle.rows.proofs.Pairing.{both_more}
use Rattle.rows.proofs.tidy.TidyRows.join.Goals as goal

pub put_in-requires-2-clause-room : goal.put_in-requires-2-clause-room
put_in-requires-2-clause-room c =
    let s = c.args.self.now in
    let u = c.args.u in
    let v = c.args.v in
    let n = ap (λ f. f.persons) c.put_in.ensures.framed in
    let span = ap (λ f. f.span) c.put_in.ensures.framed in
    let same = ap₂ (λ p m. length (filter p (range_with_len 0 m)))
    (fun_ext (λ y. c.put_in.ensures.linked v y ∙ ap (λ b. b || links s v y) (and_left (eqb v u) (eqb y v) (ne_eqb v u (λ e. c.requires.apart (sym e)))))) n in
    omega (arith, c.requires.other_room)

pub returns-clause-linked : goal.returns-clause-linked
returns-clause-linked c = λ x y.
    c.put_in-2.ensures.linked x y ∙ ap (λ t. (eqb x c.args.v && eqb y c.args.u) || t) (c.put_in.ensures.linked x y) ∙ both_more (eqb x c.args.u && eqb y c.args.v) (eqb x c.args.v && eqb y c.args.u) (links c.args.self.now x y)
