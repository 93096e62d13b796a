-- The laws of joining and finding, the last round first. Assumes nothing.
--     RootsEndHolders             a root is where the holders no earlier than j end; two persons have one root exactly when a walk leads from one to the other
--     JoiningStepsBack            the step back to round j, and which rounds get j as their holder by it
--     FindingEndsAtRoot           following up finds the root, also after a short cut is written; a joining is one write: of j at the start, and of j at each root that is touched
use Rattle.std.specs.Prelude.{◌≡◌, ℕ, suc, ◌<◌, ◌≤◌, true, false, Decides}
use Rattle.std.proofs.Math.Option.{some}
use Rattle.theory.specs.Sets.{Set, Relation, ◌∈◌, times}
use Rattle.theory.specs.Graphs.{Graph, Lawful, Walk}
use Rattle.theory.specs.Orders.{Order, Strict}
use Rattle.theory.specs.Cores.{component}
use Rattle.forest.specs.Rounds.{left, circle, rounds, round}
use Rattle.forest.specs.Holders.{holder, Reaches}
use Rattle.forest.specs.Joining.{Roots, Touched, rejoined, Rooted, Finds, put, more}

abbrev pub RootsEndHolders : Type 0
RootsEndHolders =
    (g : Graph) → Lawful g → (le : Relation) → Order le → Strict le → (k j : ℕ) (root : ℕ → ℕ) → Roots g le k j root →
    ((a : ℕ) → j ≤ a → a < rounds g le k → Reaches g le k a (root a) × ((h : ℕ) → holder g le k (root a) ≡ some h → h < j))
    × ((a r : ℕ) → j ≤ a → a < rounds g le k → j ≤ r → Reaches g le k a r → ((h : ℕ) → holder g le k r ≡ some h → h < j) → root a ≡ r)
    × ((u : ℕ) → u ∈ left g le k j → component g (left g le k j) u ≡ circle g le k (root (round g le k u)))
    × ((u v : ℕ) → u ∈ left g le k j → v ∈ left g le k j → (root (round g le k u) ≡ root (round g le k v) → Walk g (left g le k j) u v) × (Walk g (left g le k j) u v → root (round g le k u) ≡ root (round g le k v)))

-- at the start, j is the number of rounds and there is nothing to show
abbrev pub JoiningStepsBack : Type 0
JoiningStepsBack =
    (g : Graph) → Lawful g → (le : Relation) → Order le → Strict le → (k : ℕ) →
    ((root : ℕ → ℕ) → Roots g le k (rounds g le k) root)
    × ((j : ℕ) (root : ℕ → ℕ) → j < rounds g le k → Roots g le k (suc j) root → (touched : Set) → ((b : ℕ) → Decides (touched b) (Touched g le k j root b)) →
    Roots g le k j (rejoined j touched root)
    × ((b : ℕ) → j < b → b < rounds g le k → (root b ≡ b → touched b ≡ true → holder g le k b ≡ some j) × (holder g le k b ≡ some j → (root b ≡ b) × (touched b ≡ true))))

abbrev pub FindingEndsAtRoot : Type 0
FindingEndsAtRoot =
    ((j m : ℕ) (root up : ℕ → ℕ) → Rooted j m root → Finds j m root up →
    ((a n : ℕ) → j ≤ a → a < m → a ≤ n → times n up a ≡ root a)
    × ((a : ℕ) → j ≤ a → a < m → Finds j m root (put up a (root a))))
    × ((j m : ℕ) (root up : ℕ → ℕ) → Finds (suc j) m root up → Finds j m (rejoined j (λ _. false) root) (put up j j))
    × ((j m : ℕ) (root up : ℕ → ℕ) (T : Set) (b : ℕ) → Finds j m (rejoined j T root) up → j < b → root b ≡ b → T b ≡ false → Finds j m (rejoined j (more T b) root) (put up b j))
    × ((g : Graph) → Lawful g → (le : Relation) → Order le → Strict le → (k j : ℕ) (root : ℕ → ℕ) → Roots g le k j root → Rooted j (rounds g le k) root)
