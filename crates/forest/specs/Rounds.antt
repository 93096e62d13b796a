-- The rounds of peeling, by number. Assumes nothing.
--     next g le k R               one round: the weakest of R is taken out, and the core of the rest is left
--     left g le k i               who is left before round i
--     key g le k i                the weakest of those left before round i; 0 if nobody is left
--     own g le k i                who is dropped in round i
--     circle g le k i             the circle of round i
--     rounds g le k               how many rounds there are
--     round g le k u              the round in which u is dropped, if u is in the k-core
use Rattle.std.proofs.Math.Option.{some, none}
use Rattle.std.specs.Prelude.{ℕ, zero, suc}
use Rattle.theory.specs.Sets.{Set, Relation, without, minus, count, any}
use Rattle.theory.specs.Graphs.{Graph}
use Rattle.theory.specs.Orders.{weakest}
use Rattle.theory.specs.Cores.{everyone, core, component}

unfoldable pub next : Graph → Relation → ℕ → Set → Set
next g le k R = elim (weakest le R g.size) [ none ↦ R | some w ↦ core g k (without R w) ]

unfoldable pub left : Graph → Relation → ℕ → ℕ → Set
left g le k zero = core g k (everyone g)
left g le k (suc i) = next g le k (left g le k i)

unfoldable pub key : Graph → Relation → ℕ → ℕ → ℕ
key g le k i = elim (weakest le (left g le k i) g.size) [ none ↦ 0 | some w ↦ w ]

unfoldable pub own : Graph → Relation → ℕ → ℕ → Set
own g le k i = minus (left g le k i) (left g le k (suc i))

unfoldable pub circle : Graph → Relation → ℕ → ℕ → Set
circle g le k i = component g (left g le k i) (key g le k i)

unfoldable pub rounds : Graph → Relation → ℕ → ℕ
rounds g le k = count (λ i. any (left g le k i) g.size) g.size

unfoldable pub round : Graph → Relation → ℕ → ℕ → ℕ
round g le k u = count (λ i. left g le k (suc i) u) g.size
