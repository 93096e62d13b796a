use Rattle.std.proofs.Common.{◌≡◌, ◌+◌, ◌-◌, ◌*◌, get_or, take, drop, sym, ap₂, ◌∙◌, subst, arith}
use Rattle.std.specs.List.Sorted.{IsStrictlyIncreasing}
use Rattle.rows.specs.Tidy.{links}
use Rattle.rows.proofs.Keeping.{lies, reads}
use Rattle.rows.proofs.Neighbourhoods.{nobody_near}
use Rattle.rows.proofs.Sieve.{kept_rising}
use Rattle.rows.proofs.tidy.TidyRows.row.Goals as goal

pub returns-then-u-self-clause-value : goal.returns-then-u-self-clause-value
returns-then-u-self-clause-value c =
    let s = c.args.self.now in
    nobody_near s.n s.span s.counts.items s.cells.items c.args.u c.if-u-self.true

pub returns : goal.returns
returns c =
    let s = c.args.self.now in
    let u = c.args.u in
    let l = lies s u c.if-u-self.false in
    let first = u * s.span in
    let k : first + c.from.result - first ≡ get_or s.counts.items u 0 = omega (arith, reads s.counts.items u c.index.result.now l.known c.index.ensures) in
    let is = ap₂ (λ k xs. take k (drop first xs)) k c.deref.ensures.value ∙ l.near in
    record { value = is; rising = subst IsStrictlyIncreasing (sym is) (kept_rising (links s u) s.n) }
