-- The laws of the tree, and of what is read from it. Assumes nothing.
--     TreeIsRight                 the function of the tree meets the relation, and is the only list of vertices that does
--     VerticesForK                the vertices for k, in the order of the rounds
--     EntriesAreCoreNumbers       the tree has as many entries as all core numbers together
--     VerticesGatherCircles       a circle is its vertex's own persons and those of every vertex under it by holders
--     ChildrenStandLater          no vertex for k has a vertex that stands behind it as its holder
--     PickingLists                picking from the tree gives the listing of the network
--     HolderIsFound               whether w is the weakest of a circle for k, and which circle holds that, is found in the tree
use Rattle.std.specs.Prelude.{◌≡◌, ℕ, ◌≤◌, false, List, map, Decides, nat_eq}
use Rattle.std.specs.List.{range_with_len}
use Rattle.theory.specs.Sets.{Set, Relation, total, Pairwise, any_of}
use Rattle.theory.specs.Graphs.{Graph, Lawful}
use Rattle.theory.specs.Orders.{Order, Strict, Weakest}
use Rattle.theory.specs.Circles.{Circle}
use Rattle.theory.specs.Cores.{core_number}
use Rattle.theory.specs.Listing.{Choice, listing}
use Rattle.forest.specs.Rounds.{rounds}
use Rattle.forest.specs.Holders.{HolderOf, is}
use Rattle.forest.specs.Trees.{Vertex, TreeOf, vertex_at, tree, entries}
use Rattle.forest.specs.Picking.{of_number, under_of, gathered, pick}

abbrev pub TreeIsRight : Type 0
TreeIsRight = (g : Graph) → Lawful g → (le : Relation) → Order le → Strict le → TreeOf g le (tree g le) × ((vs : List Vertex) → TreeOf g le vs → vs ≡ tree g le)

abbrev pub VerticesForK : Type 0
VerticesForK = (g : Graph) → Lawful g → (le : Relation) → Order le → Strict le → (k : ℕ) → 1 ≤ k → of_number k (tree g le) ≡ map (vertex_at g le k) (range_with_len 0 (rounds g le k))

abbrev pub EntriesAreCoreNumbers : Type 0
EntriesAreCoreNumbers = (g : Graph) → Lawful g → (le : Relation) → Order le → Strict le → entries (tree g le) ≡ total (core_number g) g.size

abbrev pub VerticesGatherCircles : Type 0
VerticesGatherCircles =
    (g : Graph) → Lawful g → (le : Relation) → Order le → Strict le → (k : ℕ) → 1 ≤ k → (S : Set) (w : ℕ) → Circle g le k S → Weakest le S w →
    gathered (of_number k (tree g le)) w ≡ S

abbrev pub ChildrenStandLater : Type 0
ChildrenStandLater =
    (g : Graph) → Lawful g → (le : Relation) → Order le → Strict le → (k : ℕ) → 1 ≤ k →
    Pairwise (λ x y. is y.weakest x.under ≡ false) (of_number k (tree g le))

abbrev pub PickingLists : Type 0
PickingLists =
    (g : Graph) → Lawful g → (le : Relation) → Order le → Strict le → (k r : ℕ) (choice : Choice) → 1 ≤ k →
    pick g.size (tree g le) k r choice ≡ listing g le k r choice

abbrev pub HolderIsFound : Type 0
HolderIsFound =
    (g : Graph) → Lawful g → (le : Relation) → Order le → Strict le → (k w : ℕ) → 1 ≤ k →
    Decides (any_of (λ x. nat_eq x.weakest w) (of_number k (tree g le))) ((S : Set) × Circle g le k S × Weakest le S w)
    × ((S : Set) → Circle g le k S → Weakest le S w → HolderOf g le k S (under_of (of_number k (tree g le)) w))
