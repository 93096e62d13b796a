use Rattle.std.proofs.Common.{◌-◌}
use Rattle.meaning.specs.Persons.{graph_of}
use Rattle.cores.proofs.Numbered.{Numbered}
use Rattle.cores.proofs.numbers.number_all.Given as goal

abbrev pub invariant-loop-k : goal.invariant-loop-k
invariant-loop-k g l = Numbered (graph_of (g.N.Network.meaning l.net)) (l.k - 1) l.cascade l.row l.fn.row
