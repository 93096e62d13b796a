use Rattle.std.proofs.Common.{sym, ◌∙◌, rules, arith, tests}
use Rattle.std.proofs.lemmas.Iterator.{YieldsList-from_range}
use Rattle.std.proofs.lemmas.Iterator.Adapters.{option_map_id}
use Rattle.std.proofs.lemmas.Iterator.Consumers.{nth_from_yields_List, YieldsList-from_filter}
use Rattle.matrix.specs.Bits.{bit_at}
use Rattle.matrix.proofs.square.Square.nth_in_row.Goals as goal

pub returns : goal.returns
returns c =
    let s = c.args.self.now in
    sym (option_map_id c.nth.result)
    ∙ nth_from_yields_List {v = λ x. x} c.nth.result c.nth.new.self c.args.i c.nth.ensures.ran
    (YieldsList-from_filter _ (bit_at s.n s.bits.items c.args.u) (YieldsList-from_range 0 s.n s.n (cc) (omega arith)) c.filter.ensures.closure (λ x r q k. search (rules, tests)))
