-- The laws of holders, and sums along them. Assumes nothing.
--     Held g le k                 what holds of the holders for k
--     HoldersAreSmallest          a holder is the last earlier round whose circle has the key, and the smallest other circle that holds the circle
--     SizesAddUp                  a circle has as many members as are its own and in the circles that it is the holder of
--     AddingUpIsWhole             adding up, the last round first: before round j is added to its holder, its own sum is whole
use Rattle.std.specs.Prelude.{◌≡◌, ℕ, suc, ◌+◌, ◌<◌, ◌≤◌, ◌⊎◌}
use Rattle.std.proofs.Math.Option.{some, none}
use Rattle.theory.specs.Sets.{Set, Relation, ◌∈◌, ◌⊆◌, count, total}
use Rattle.theory.specs.Graphs.{Graph, Lawful}
use Rattle.theory.specs.Orders.{Order, Strict}
use Rattle.theory.specs.Circles.{Circle}
use Rattle.theory.specs.Cores.{everyone, core}
use Rattle.forest.specs.Rounds.{key, own, circle, rounds, round}
use Rattle.forest.specs.Holders.{holder, Reaches, held_by, total_from}

pub record Held (g : Graph) (le : Relation) (k : ℕ) : Type 0 where
  -- the last earlier round whose circle has the key, if there is one
  pub latest : (i j : ℕ) → holder g le k i ≡ some j → (j < i) × (key g le k i ∈ circle g le k j) × ((h : ℕ) → h < i → key g le k i ∈ circle g le k h → h ≤ j)
  pub free : (i : ℕ) → holder g le k i ≡ none → (h : ℕ) → h < i → key g le k i ∈ circle g le k h → ⊥
  -- the holder stands before, is another circle that holds this one, and every other circle that does holds it too
  pub smallest : (i j : ℕ) → i < rounds g le k → holder g le k i ≡ some j →
      (j < i) × (circle g le k i ⊆ circle g le k j) × ((circle g le k j ⊆ circle g le k i) → ⊥)
      × ((S : Set) → Circle g le k S → circle g le k i ⊆ S → (S ⊆ circle g le k i) ⊎ (circle g le k j ⊆ S))
  -- without a holder no other circle holds this one
  pub outermost : (i : ℕ) → i < rounds g le k → holder g le k i ≡ none → (S : Set) → Circle g le k S → circle g le k i ⊆ S → S ⊆ circle g le k i
  -- a circle is its own persons and the circles it is the holder of
  pub parts : (j v : ℕ) → v ∈ circle g le k j → (v ∈ own g le k j) ⊎ ((i : ℕ) × (i < rounds g le k) × (holder g le k i ≡ some j) × (v ∈ circle g le k i))
  pub made : (j v : ℕ) → (v ∈ own g le k j) ⊎ ((i : ℕ) × (i < rounds g le k) × (holder g le k i ≡ some j) × (v ∈ circle g le k i)) → v ∈ circle g le k j
  -- the persons of a circle are those whose round reaches it
  pub reaching : (i v : ℕ) → v ∈ circle g le k i → Reaches g le k (round g le k v) i
  pub reached : (i v : ℕ) → v ∈ core g k (everyone g) → Reaches g le k (round g le k v) i → v ∈ circle g le k i

abbrev pub HoldersAreSmallest : Type 0
HoldersAreSmallest = (g : Graph) → Lawful g → (le : Relation) → Order le → Strict le → (k : ℕ) → Held g le k

abbrev pub SizesAddUp : Type 0
SizesAddUp =
    (g : Graph) → Lawful g → (le : Relation) → Order le → Strict le → (k j : ℕ) → j < rounds g le k →
    count (circle g le k j) g.size ≡ count (own g le k j) g.size + total (held_by g le k j (λ i. count (circle g le k i) g.size)) (rounds g le k)

abbrev pub AddingUpIsWhole : Type 0
AddingUpIsWhole =
    (g : Graph) → Lawful g → (le : Relation) → Order le → Strict le → (k : ℕ) (own_of whole : ℕ → ℕ) →
    ((h : ℕ) → h < rounds g le k → whole h ≡ own_of h + total (held_by g le k h whole) (rounds g le k)) →
    (h : ℕ) → h < rounds g le k →
    (own_of h + total_from (held_by g le k h whole) (rounds g le k) (rounds g le k) ≡ own_of h)
    × ((j : ℕ) → j < rounds g le k → own_of h + total_from (held_by g le k h whole) j (rounds g le k) ≡ held_by g le k h whole j + (own_of h + total_from (held_by g le k h whole) (suc j) (rounds g le k)))
    × ((j : ℕ) → j ≤ suc h → own_of h + total_from (held_by g le k h whole) j (rounds g le k) ≡ whole h)
