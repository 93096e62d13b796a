-- The laws of circles, each for a form of circles and the orders it is for. Assumes nothing.
--     CircleFormsAgree            where no two persons are level, the two forms of a circle are one
--     CirclesAreComponents        the circles for k are the components of w in the k-core of those not weaker than w: one for each w in that core
--     ApartOrNested               two circles for one k are apart, or one holds the other
--     NestedByK                   a circle for a larger k lies in the circle for k with the same weakest person
--     CoreNumberTellsCircles      a person is in some circle for k exactly when the core number is at least k
use Rattle.std.specs.Prelude.{◌≡◌, ℕ, ◌<◌, ◌≤◌, ◌⊎◌}
use Rattle.theory.specs.Sets.{Set, Relation, ◌∈◌, ◌⊆◌, Apart}
use Rattle.theory.specs.Graphs.{Graph, Lawful}
use Rattle.theory.specs.Orders.{Order, Strict, Weakest}
use Rattle.theory.specs.Circles.{Circle, LevelCircle}
use Rattle.theory.specs.Cores.{core, core_number, above, circle_at}

abbrev pub CircleFormsAgree : Type 0
CircleFormsAgree =
    (g : Graph) (le : Relation) → Order le → Strict le → (k : ℕ) (S : Set) →
    (Circle g le k S → LevelCircle g le k S) × (LevelCircle g le k S → Circle g le k S)

abbrev pub CirclesAreComponents : (Graph → Relation → ℕ → Set → Type 0) → (Relation → Type 0) → Type 0
CirclesAreComponents IsCircle Ordered =
    (g : Graph) → Lawful g → (le : Relation) → Ordered le → (k : ℕ) →
    ((w : ℕ) → w ∈ core g k (above le w) → IsCircle g le k (circle_at g le k w) × Weakest le (circle_at g le k w) w)
    × ((S : Set) (w : ℕ) → IsCircle g le k S → Weakest le S w → (w ∈ core g k (above le w)) × (S ≡ circle_at g le k w))
    × ((S : Set) → IsCircle g le k S → (w : ℕ) × Weakest le S w)

abbrev pub ApartOrNested : (Graph → Relation → ℕ → Set → Type 0) → (Relation → Type 0) → Type 0
ApartOrNested IsCircle Ordered =
    (g : Graph) → Lawful g → (le : Relation) → Ordered le → (k : ℕ) (S S' : Set) → IsCircle g le k S → IsCircle g le k S' →
    Apart S S' ⊎ ((S ⊆ S') ⊎ (S' ⊆ S))

abbrev pub NestedByK : (Graph → Relation → ℕ → Set → Type 0) → (Relation → Type 0) → Type 0
NestedByK IsCircle Ordered =
    (g : Graph) → Lawful g → (le : Relation) → Ordered le → (k k' : ℕ) → k ≤ k' → (S : Set) (w : ℕ) → IsCircle g le k' S → Weakest le S w →
    IsCircle g le k (circle_at g le k w) × Weakest le (circle_at g le k w) w × (S ⊆ circle_at g le k w)

abbrev pub CoreNumberTellsCircles : (Graph → Relation → ℕ → Set → Type 0) → (Relation → Type 0) → Type 0
CoreNumberTellsCircles IsCircle Ordered =
    (g : Graph) → Lawful g → (le : Relation) → Ordered le → (u : ℕ) → u < g.size → (k : ℕ) →
    (((S : Set) × IsCircle g le k S × (u ∈ S)) → k ≤ core_number g u) × (k ≤ core_number g u → (S : Set) × IsCircle g le k S × (u ∈ S))
