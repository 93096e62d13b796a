-- Joining parts, the last round first, and finding the root of a part. Assumes nothing.
--     Roots g le k j root         parts of the rounds from j on: the persons of the part of a are a component of those left, and the circle of its root
--     Touched g le k j root b     somebody dropped in round j is linked to somebody of a later round whose root is b
--     rejoined j touched root     round j, and every part that is touched, gets the root j
--     Rooted j m root             a root is no later than what it is the root of, and its own root
--     Finds j m root up           up leads from each number from j to m down to its root
--     put f a v                   f, but v at a
--     more T b                    T and b
use Rattle.std.specs.Prelude.{◌≡◌, ℕ, suc, ◌<◌, ◌≤◌, true, cond, ◌||◌, ◌==◌}
use Rattle.theory.specs.Sets.{Set, Relation, ◌∈◌}
use Rattle.theory.specs.Graphs.{Graph}
use Rattle.theory.specs.Cores.{component}
use Rattle.forest.specs.Rounds.{left, key, own, circle, rounds, round}

pub record Roots (g : Graph) (le : Relation) (k j : ℕ) (root : ℕ → ℕ) : Type 0 where
  pub between : (a : ℕ) → j ≤ a → a < rounds g le k → (j ≤ root a) × (root a ≤ a)
  pub part : (a : ℕ) → j ≤ a → a < rounds g le k → component g (left g le k j) (key g le k a) ≡ circle g le k (root a)

abbrev pub Touched : Graph → Relation → ℕ → ℕ → (ℕ → ℕ) → ℕ → Type 0
Touched g le k j root b = (u y : ℕ) × (u ∈ own g le k j) × (y ∈ left g le k (suc j)) × (g.linked u y ≡ true) × (root (round g le k y) ≡ b)

unfoldable pub rejoined : ℕ → Set → (ℕ → ℕ) → ℕ → ℕ
rejoined j touched root a = cond (a == j || touched (root a)) j (root a)

abbrev pub Rooted : ℕ → ℕ → (ℕ → ℕ) → Type 0
Rooted j m root = (a : ℕ) → j ≤ a → a < m → (j ≤ root a) × (root a ≤ a) × (root (root a) ≡ root a)

pub record Finds (j m : ℕ) (root up : ℕ → ℕ) : Type 0 where
  pub low : (a : ℕ) → j ≤ a → a < m → (j ≤ up a) × (up a ≤ a)
  pub same : (a : ℕ) → j ≤ a → a < m → root (up a) ≡ root a
  pub ends : (a : ℕ) → j ≤ a → a < m → up a ≡ a → root a ≡ a

unfoldable pub put : (ℕ → ℕ) → ℕ → ℕ → ℕ → ℕ
put f a v x = cond (x == a) v (f x)

unfoldable pub more : Set → ℕ → Set
more T b x = T x || x == b
