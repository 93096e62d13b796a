use Rattle.std.proofs.Common.{sym, ◌∙◌}
use Rattle.std.proofs.lemmas.Bool.{both_ways}
use Rattle.meaning.specs.Persons.{graph_of}
use Rattle.theory.specs.Sets.{without}
use Rattle.cores.specs.Lanes.{alive}
use Rattle.cores.specs.Lent.{lanes_of}
use Rattle.cores.proofs.Alive.{alive_read, alive_read_not, alive_past}
use Rattle.cores.proofs.Fitting.{fits_gives, none_out}
use Rattle.cores.proofs.Settling.{one_falls_at}
use Rattle.cores.proofs.lanes.Cascade.take_out.Goals as goal
use Rattle.cores.proofs.lanes.Cascade.take_out.Goals.{else-fits-via-then-fits+then-w-self+else-self-w-eq0, else-fits-via-then-fits+else-w-self, else-fits-via-else-fits}

pub returns-then-self-w-eq0-clause-fallen : goal.returns-then-self-w-eq0-clause-fallen
returns-then-self-w-eq0-clause-fallen g c = λ e r enough.
    let net = g.N.Network.meaning c.args.net.now in
    let l = lanes_of c.args.self.now in
    let fits = fits_gives net.persons c.args.mark l c.args.self.now.near.now e in
    c.follow.ensures.fallen (without (alive l.fell) c.args.w) l
    (rw c.let_fall.ensures.fell (one_falls_at (graph_of net) c.args.k c.args.mark c.args.self.now.near.now c.args.w l fits (alive_read l.fell c.args.w c.if-w-self.true c.if-self-w-eq0.true) r enough))

pub returns-else-fits-clause-fallen : goal.returns-else-fits-clause-fallen
returns-else-fits-clause-fallen g c = λ e r enough.
    let net = g.N.Network.meaning c.args.net.now in
    let l = lanes_of c.args.self.now in
    let fits = fits_gives net.persons c.args.mark l c.args.self.now.near.now e in
    none_out (graph_of net) c.args.k c.args.mark l c.args.w fits.fell r enough (elim c.else-fits.branch [
      | else-fits-via-then-fits+then-w-self+else-self-w-eq0 w ↦ alive_read_not l.fell c.args.w w.if-w-self.true w.if-self-w-eq0.false
      | else-fits-via-then-fits+else-w-self w ↦ alive_past l.fell c.args.w w.if-w-self.false
      | else-fits-via-else-fits w ↦ absurd (both_ways _ (sym c.fits.ensures ∙ w.if-fits.false) e)
    ])
