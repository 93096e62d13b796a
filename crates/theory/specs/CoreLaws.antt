-- The laws of cores, components and core numbers. Assumes nothing.
--     CoreIsGreatest              the k-core of X is in X, tight, and holds every tight part of X
--     ComponentIsGreatest         the component of w in X is connected, holds w and every connected part of X with w, and is tight where X is
--     CoreNumberIsGreatest        the function gives the core number, and no other number is one
--     CoreSizesSumToCoreNumbers        the sizes of the cores for 1, 2, .. sum to the sum of the core numbers, at most twice the links
use Rattle.std.specs.Prelude.{◌≡◌, ℕ, suc, ◌*◌, ◌<◌, ◌≤◌}
use Rattle.theory.specs.Sets.{Set, ◌∈◌, ◌⊆◌, count, total}
use Rattle.theory.specs.Graphs.{Graph, Lawful, Inside, Tight, Connected, links}
use Rattle.theory.specs.Cores.{IsCore, everyone, core, core_number, component}

abbrev pub CoreIsGreatest : Type 0
CoreIsGreatest =
    (g : Graph) (k : ℕ) (X : Set) →
    Inside g (core g k X) × (core g k X ⊆ X) × Tight g k (core g k X) × ((Y : Set) → Inside g Y → Y ⊆ X → Tight g k Y → Y ⊆ core g k X)

abbrev pub ComponentIsGreatest : Type 0
ComponentIsGreatest =
    (g : Graph) → Lawful g → (X : Set) (w : ℕ) → w < g.size → w ∈ X →
    (w ∈ component g X w) × (component g X w ⊆ X) × Connected g (component g X w)
    × ((Y : Set) → Y ⊆ X → Connected g Y → w ∈ Y → Y ⊆ component g X w)
    × ((k : ℕ) → Tight g k X → Tight g k (component g X w))

abbrev pub CoreNumberIsGreatest : Type 0
CoreNumberIsGreatest = (g : Graph) (u : ℕ) → u < g.size → IsCore g u (core_number g u) × ((c : ℕ) → IsCore g u c → c ≡ core_number g u)

abbrev pub CoreSizesSumToCoreNumbers : Type 0
CoreSizesSumToCoreNumbers =
    (g : Graph) → Lawful g →
    (total (λ k. count (core g (suc k) (everyone g)) g.size) g.size ≡ total (core_number g) g.size)
    × (total (core_number g) g.size ≤ 2 * links g)
