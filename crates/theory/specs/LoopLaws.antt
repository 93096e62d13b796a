-- What the loops of a finder rest on. Assumes nothing.
--     Falls g k X Y               from X to Y by dropping, one after another, persons with fewer than k neighbours in what is left
--     CascadeEndsAtCore           whatever the order of dropping, it ends at the core
--     CascadeKeepsCore            dropping who has too few neighbours keeps the core; a tight set is its own core; dropping from a core or at once is the same
--     SearchEndsAtComponent       what a search from w has found, once no link leads out of it, is the component
--     CoreNumberIsMet             a person of the k-core with at most k neighbours in a set that has the next core is at core number k
--     DegreeFallsByOne            one member less is one neighbour less, for the neighbours of that member
--     DegreeByList                the degree is a count over the list of neighbours
use Rattle.std.specs.Prelude.{◌≡◌, ℕ, suc, ◌+◌, ◌<◌, ◌≤◌, true, ◌≢◌, List, count_by}
use Rattle.std.specs.List.{AllByRecursion}
use Rattle.theory.specs.Sets.{Set, ◌∈◌, ◌⊆◌, without, bit, ◌among◌, Pairwise}
use Rattle.theory.specs.Graphs.{Graph, Lawful, Inside, Tight, Walk, degree}
use Rattle.theory.specs.Cores.{everyone, core, core_number, component}

pub data Falls (g : Graph) (k : ℕ) : Set → Set → Type 0 where
  settled : {X : Set} → Falls g k X X
  drops : {X Y : Set} (v : ℕ) → degree g X v < k → Falls g k (without X v) Y → Falls g k X Y

abbrev pub CascadeEndsAtCore : Type 0
CascadeEndsAtCore = (g : Graph) (k : ℕ) (X Y : Set) → Falls g k X Y → Inside g Y → Tight g k Y → Y ≡ core g k X

abbrev pub CascadeKeepsCore : Type 0
CascadeKeepsCore =
    (g : Graph) (k : ℕ) (X : Set) →
    ((v : ℕ) → degree g X v < k → core g k (without X v) ≡ core g k X)
    × (Inside g X → Tight g k X → core g k X ≡ X)
    × ((w : ℕ) → core g k (without (core g k X) w) ≡ core g k (without X w))

abbrev pub SearchEndsAtComponent : Type 0
SearchEndsAtComponent =
    (g : Graph) → Lawful g → (X : Set) (w : ℕ) → w < g.size → w ∈ X → (C : Set) → w ∈ C → ((v : ℕ) → v ∈ C → Walk g X w v) →
    ((u v : ℕ) → u ∈ C → g.linked u v ≡ true → v ∈ X → v ∈ C) → C ≡ component g X w

abbrev pub CoreNumberIsMet : Type 0
CoreNumberIsMet =
    (g : Graph) (k v : ℕ) (X : Set) → v ∈ core g k (everyone g) → core g (suc k) (everyone g) ⊆ X → degree g X v ≤ k → core_number g v ≡ k

abbrev pub DegreeFallsByOne : Type 0
DegreeFallsByOne = (g : Graph) (S : Set) (w u : ℕ) → w < g.size → w ∈ S → degree g S u ≡ bit (g.linked u w) + degree g (without S w) u

abbrev pub DegreeByList : Type 0
DegreeByList =
    (g : Graph) → Lawful g → (u : ℕ) (vs : List ℕ) → Pairwise (λ v w. v ≢ w) vs → ((v : ℕ) → g.linked u v ≡ true → v among vs) → AllByRecursion (λ v. g.linked u v ≡ true) vs →
    (S : Set) → degree g S u ≡ count_by S vs
