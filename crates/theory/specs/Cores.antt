-- Core numbers, and cores, components and circles as functions. Assumes nothing.
--     IsCore g u c                c is the core number of u
--     everyone g                  all persons
--     core g k X                  the k-core of X: what is left of X once nobody has fewer than k neighbours left
--     core_number g u             in how many of the cores for 1, 2, .. the person u is
--     component g X w             those of X to whom a walk inside X leads from w
--     above le w                  those at least as strong as w
--     circle_at g le k w          the component of w in the k-core of those at least as strong as w
use Rattle.std.specs.Prelude.{ℕ, suc, ◌≤◌, ◌&&◌, ◌||◌, ◌==◌, nat_le, nat_lt}
use Rattle.theory.specs.Sets.{Set, Relation, ◌∈◌, count, any, times, below}
use Rattle.theory.specs.Graphs.{Graph, Inside, Tight, degree}

-- the largest number such that some set holds u and each member of the set has at least that many neighbours in it
pub record IsCore (g : Graph) (u c : ℕ) : Type 0 where
  pub met : (S : Set) × Inside g S × Tight g c S × (u ∈ S)
  pub most : (c' : ℕ) (S : Set) → Inside g S → Tight g c' S → u ∈ S → c' ≤ c

unfoldable pub everyone : Graph → Set
everyone g v = nat_lt v g.size

-- one round: those with fewer than k neighbours go
unfoldable pub prune : Graph → ℕ → Set → Set
prune g k X = below g.size (λ v. X v && nat_le k (degree g X v))

-- as many rounds as there are persons
unfoldable pub core : Graph → ℕ → Set → Set
core g k X = times g.size (prune g k) (below g.size X)

unfoldable pub core_number : Graph → ℕ → ℕ
core_number g u = count (λ c. core g (suc c) (everyone g) u) g.size

-- one round: those of X that are linked to one of C join C
unfoldable pub spread : Graph → Set → Set → Set
spread g X C = below g.size (λ v. X v && (C v || any (λ u. C u && g.linked u v) g.size))

unfoldable pub component : Graph → Set → ℕ → Set
component g X w = times g.size (spread g X) (below g.size (λ v. X v && v == w))

abbrev pub above : Relation → ℕ → Set
above le w v = le w v

unfoldable pub circle_at : Graph → Relation → ℕ → ℕ → Set
circle_at g le k w = component g (core g k (above le w)) w
