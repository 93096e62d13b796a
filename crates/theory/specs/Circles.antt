-- Circles, which the literature calls k-influential communities, and their form where persons may be level. Assumes nothing.
--     SameWeakest le S S'         one person is the weakest of both
--     Circle g le k S             S is a circle for k, in an order le in which no two persons are level
--     Group g k S                 S is non-empty, connected and tight
--     Level le S S'               the weakest of S and the weakest of S' are level
--     LevelCircle g le k S        S is a circle for k, where persons may be level
--     Innermost IsCircle S        S holds no other circle of that form
--     Own IsCircle S v            v is in S and in no other circle that S holds
use Rattle.std.specs.Prelude.{◌≡◌, ℕ, true}
use Rattle.theory.specs.Sets.{Set, Relation, ◌∈◌, ◌⊆◌, Larger}
use Rattle.theory.specs.Graphs.{Graph, Inside, Tight, Connected}
use Rattle.theory.specs.Orders.{Weakest}

abbrev pub SameWeakest : Relation → Set → Set → Type 0
SameWeakest le S S' = (w : ℕ) × Weakest le S w × Weakest le S' w

-- a non-empty set of persons, connected by links inside it, in which each member has at least k neighbours,
-- such that no larger set that contains it has both properties and the same weakest person
pub record Circle (g : Graph) (le : Relation) (k : ℕ) (S : Set) : Type 0 where
  pub inside : Inside g S
  pub someone : (u : ℕ) × (u ∈ S)
  pub connected : Connected g S
  pub tight : Tight g k S
  pub whole : (S' : Set) → Inside g S' → Larger S S' → Connected g S' → Tight g k S' → SameWeakest le S S' → ⊥

-- ---- where persons may be level

pub record Group (g : Graph) (k : ℕ) (S : Set) : Type 0 where
  pub inside : Inside g S
  pub someone : (u : ℕ) × (u ∈ S)
  pub connected : Connected g S
  pub tight : Tight g k S

abbrev pub Level : Relation → Set → Set → Type 0
Level le S S' = (w w' : ℕ) × Weakest le S w × Weakest le S' w' × (le w w' ≡ true) × (le w' w ≡ true)

-- a group that no larger group of level influence contains
pub record LevelCircle (g : Graph) (le : Relation) (k : ℕ) (S : Set) : Type 0 where
  pub group : Group g k S
  pub whole : (S' : Set) → Group g k S' → S ⊆ S' → Level le S S' → S' ⊆ S

abbrev pub Innermost : (Set → Type 0) → Set → Type 0
Innermost IsCircle S = (S' : Set) → IsCircle S' → S' ⊆ S → S ⊆ S'

abbrev pub Own : (Set → Type 0) → Set → ℕ → Type 0
Own IsCircle S v = (v ∈ S) × ((S' : Set) → IsCircle S' → S' ⊆ S → v ∈ S' → S ⊆ S')
