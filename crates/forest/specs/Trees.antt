-- The tree of a network: a vertex for each circle for each k, with the circle that holds it and its own persons. Assumes nothing.
--     Vertex                      k, the weakest person, the holder's weakest person or none, the own persons
--     VertexOf g le S x           x is the vertex of the circle S
--     Before le x y               x comes first: of a smaller k, or of the same k and weaker
--     TreeOf g le vs              vs has one vertex for each circle for each k from 1 on, in that order
--     named f h                   f of the number, if there is one
--     vertex_at g le k i          the vertex of round i
--     tree_for g le k             the vertices for k
--     trees_from g le k n         the vertices for n numbers, from k on
--     largest f n                 the largest of f below n
--     tree g le                   the tree, as a function
--     entries vs                  how many persons stand in the vertices
use Rattle.std.specs.Prelude.{◌≡◌, ℕ, zero, suc, ◌+◌, ◌<◌, ◌≤◌, max, ◌⊎◌, List, [], ◌∷◌, ◌++◌, map, length}
use Rattle.std.proofs.Math.Option.{Option, some, none}
use Rattle.std.specs.List.{range_with_len, AllByRecursion}
use Rattle.theory.specs.Sets.{Set, Relation, ◌among◌, Pairwise, members, ListOf}
use Rattle.theory.specs.Graphs.{Graph}
use Rattle.theory.specs.Orders.{Below, Weakest}
use Rattle.theory.specs.Circles.{Circle, Own}
use Rattle.theory.specs.Cores.{core_number}
use Rattle.forest.specs.Rounds.{key, own, rounds}
use Rattle.forest.specs.Holders.{HolderOf, holder}

pub record Vertex : Type 0 where
  pub k : ℕ
  pub weakest : ℕ
  pub under : Option ℕ
  pub persons : List ℕ

pub record VertexOf (g : Graph) (le : Relation) (S : Set) (x : Vertex) : Type 0 where
  pub circled : Circle g le x.k S
  pub least : Weakest le S x.weakest
  pub held : HolderOf g le x.k S x.under
  pub owned : ListOf (Own (Circle g le x.k) S) x.persons

abbrev pub Before : Relation → Vertex → Vertex → Type 0
Before le x y = (x.k < y.k) ⊎ ((x.k ≡ y.k) × Below le x.weakest y.weakest)

pub record TreeOf (g : Graph) (le : Relation) (vs : List Vertex) : Type 0 where
  pub each : AllByRecursion (λ x. (1 ≤ x.k) × ((S : Set) × VertexOf g le S x)) vs
  pub every : (k : ℕ) (S : Set) → 1 ≤ k → Circle g le k S → (x : Vertex) × (x among vs) × (x.k ≡ k) × VertexOf g le S x
  pub rising : Pairwise (Before le) vs

-- ---- as functions

abbrev pub named : (ℕ → ℕ) → Option ℕ → Option ℕ
named f none = none
named f (some j) = some (f j)

unfoldable pub vertex_at : Graph → Relation → ℕ → ℕ → Vertex
vertex_at g le k i = record { k = k; weakest = key g le k i; under = named (key g le k) (holder g le k i); persons = members (own g le k i) g.size }

unfoldable pub tree_for : Graph → Relation → ℕ → List Vertex
tree_for g le k = map (vertex_at g le k) (range_with_len 0 (rounds g le k))

unfoldable pub trees_from : Graph → Relation → ℕ → ℕ → List Vertex
trees_from g le k zero = []
trees_from g le k (suc n) = tree_for g le k ++ trees_from g le (suc k) n

unfoldable pub largest : (ℕ → ℕ) → ℕ → ℕ
largest f zero = 0
largest f (suc n) = max (f n) (largest f n)

-- for k from 1 to the largest core number
unfoldable pub tree : Graph → Relation → List Vertex
tree g le = trees_from g le 1 (largest (core_number g) g.size)

unfoldable pub entries : List Vertex → ℕ
entries [] = 0
entries (x ∷ xs) = length x.persons + entries xs
