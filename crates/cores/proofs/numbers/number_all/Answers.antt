use Rattle.std.proofs.Common.{◌+◌, ◌-◌, sym, refl, ap, ◌∙◌, arith}
use Rattle.std.proofs.lemmas.Bool.{and_from, eq-eqb}
use Rattle.meaning.specs.Persons.{graph_of}
use Rattle.theory.proofs.Cores.{everyone_in}
use Rattle.theory.proofs.Counting.{count_le}
use Rattle.cores.specs.Lanes.{alive}
use Rattle.cores.proofs.Alive.{alive_past}
use Rattle.cores.proofs.Numbered.{core_zero, numbered_next, numbered_ends, numbered_out, none_stands}
use Rattle.cores.proofs.numbers.number_all.Goals as goal

pub loop-k-init : goal.loop-k-init
loop-k-init g c =
    let net = g.N.Network.meaning c.args.net.now in
    let gr = graph_of net in
    let up = c.raise.ensures.raised (and_from _ _ (eq-eqb _ _ c.requires.lanes.fell) (eq-eqb _ _ c.requires.lanes.degrees)) in
    let same = c.raise.ensures.same in
    record {
      fits = record {
        marks = c.requires.lanes.marks;
        ends = omega (arith, c.raise.ensures.rest.1, c.requires.start);
        fell = same.0.1 ∙ c.requires.lanes.fell;
        degrees = same.1.1 ∙ c.requires.lanes.degrees;
        order = same.2.1 ∙ c.requires.lanes.order;
        room = same.3.1 ∙ c.requires.lanes.room;
      };
      stands = up.0 ∙ sym (core_zero gr);
      ready = record { counted = up.1; room = omega (arith, c.raise.ensures.rest.1, c.requires.start, count_le (alive c.raise.new.self.fell.now) net.persons) };
      numbers = λ v l. omega (arith, c.note.ensures.written v (ap (λ S. S v) up.0 ∙ everyone_in gr v l));
      rest = λ v l. c.note.ensures.rest v (alive_past c.raise.new.self.fell.now v (omega (arith, l, same.0.1, c.requires.lanes.fell)));
    }

pub loop-k-preserved : goal.loop-k-preserved
loop-k-preserved g c =
    let note = c.note-in-loop-k in
    numbered_next c.loop-k.invariant c.loop-k.k (c.loop-k.k + 1 - 1) c.shrink.new.self note.new.row (omega arith) (omega arith) c.shrink.ensures.same c.shrink.ensures.fallen (λ v m. omega (arith, note.ensures.written v m)) note.ensures.rest

pub returns-then-not-note : goal.returns-then-not-note
returns-then-not-note g c =
    let note = c.note-in-loop-k in
    let now = numbered_next c.loop-k.invariant c.loop-k.k c.loop-k.k c.shrink.new.self note.new.row (omega arith) refl c.shrink.ensures.same c.shrink.ensures.fallen (λ v m. omega (arith, note.ensures.written v m)) note.ensures.rest in
    record { numbers = numbered_out now (none_stands (alive c.shrink.new.self.fell.now) note.result c.if-not-note.true note.ensures.some); rest = now.rest }

pub returns-else-not-note : goal.returns-else-not-note
returns-else-not-note g c =
    let note = c.note-in-loop-k in
    let now = numbered_next c.loop-k.invariant c.loop-k.k c.loop-k.k c.shrink.new.self note.new.row (omega arith) refl c.shrink.ensures.same c.shrink.ensures.fallen (λ v m. omega (arith, note.ensures.written v m)) note.ensures.rest in
    record { numbers = numbered_ends now (omega (arith, c.persons-k-end.ensures)); rest = now.rest }

pub returns : goal.returns
returns g c = record { numbers = numbered_ends c.loop-k.invariant (omega (arith, c.loop-k-test.false, c.persons-k-end.ensures)); rest = c.loop-k.invariant.rest }
