-- Peeling: drop the weakest of what remains, take the core again, go on. Assumes nothing.
--     dropped g k R w             who goes when w is taken out of R and the core is taken again
--     peel g le k m R             at most m rounds of peeling from R: each weakest person with its component
use Rattle.std.specs.Prelude.{ℕ, zero, suc, List, [], ◌∷◌}
use Rattle.std.proofs.Math.Option.{some, none}
use Rattle.theory.specs.Sets.{Set, Relation, without, minus}
use Rattle.theory.specs.Graphs.{Graph}
use Rattle.theory.specs.Orders.{weakest}
use Rattle.theory.specs.Cores.{core, component}

unfoldable pub dropped : Graph → ℕ → Set → ℕ → Set
dropped g k R w = minus R (core g k (without R w))

unfoldable pub peel : Graph → Relation → ℕ → ℕ → Set → List (ℕ × Set)
peel g le k zero R = []
peel g le k (suc m) R = elim (weakest le R g.size) [ none ↦ [] | some w ↦ (w, component g R w) ∷ peel g le k m (core g k (without R w)) ]
