use Rattle.std.proofs.Common.{ℕ, ◌+◌, slice_index, arith, rules}
use Rattle.std.proofs.lemmas.List.FromFn.{fill_by_all}
use Rattle.frames.specs.Lines.{held}
use Rattle.frames.proofs.Calls.{gave_each}
use Rattle.frames.proofs.frame.Frame.bytes_at.Goals as goal

pub returns : goal.returns
returns g c =
    let at : ℕ → ℕ = λ k. slice_index (held c.args.self.now) (c.args.i + k) in
    fill_by_all at c.from_fn.result g.row.N 0 c.from_fn.ensures.items.long
    (λ k l. gave_each _ _ at c.from_fn.result (λ j r q called. (search rules, search rules)) g.row.N 0 c.from_fn.ensures.items.each k (omega arith) (omega arith))
