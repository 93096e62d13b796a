-- Worked small networks: the bow tie, and two pairs. Assumes nothing.
--     bow_tie, by_points          five persons, two triangles with one person in common; their order by points
--     pairs, by_marks             four persons, linked two by two; their order by points
--     these vs                    the persons of a list, as a set
--     computed                    a proof that names it on its `unfolding` line computes with all of the theory
use Rattle.std.specs.Prelude.{ℕ, ◌<◌, List, [], ◌∷◌, slice_index}
use Rattle.theory.specs.Sets.{Set, Relation, ◌∈◌, without, minus, both_of, count, total, any, times, below, any_of, has}
use Rattle.theory.specs.Graphs.{Graph, Tight, degree, links, from_pairs}
use Rattle.theory.specs.Orders.{by_grade, by_number, not_after, tie_broken, weakest}
use Rattle.theory.specs.Circles.{Circle}
use Rattle.theory.specs.Cores.{IsCore, everyone, prune, core, core_number, spread, component, circle_at}
use Rattle.theory.specs.Peeling.{dropped, peel}
use Rattle.theory.specs.Listing.{every, innermost, Lists, insert, ranked, is_name, is_chosen, last, names, entry, listing}

unfoldable pub computed : ℕ
unfolding without minus both_of count total any times below any_of degree links from_pairs by_grade by_number not_after weakest everyone prune core core_number spread component circle_at dropped peel insert ranked is_name is_chosen last names entry listing
computed = 0

abbrev pub these : List ℕ → Set
these vs v = has v vs

abbrev pub bow_tie : Graph
bow_tie = from_pairs 5 ((0, 1) ∷ (0, 2) ∷ (1, 2) ∷ (2, 3) ∷ (2, 4) ∷ (3, 4) ∷ [])

abbrev pub by_points : Relation
by_points = tie_broken (by_grade (λ u. slice_index (10 ∷ 30 ∷ 20 ∷ 50 ∷ 40 ∷ []) u))

abbrev pub pairs : Graph
pairs = from_pairs 4 ((0, 1) ∷ (2, 3) ∷ [])

abbrev pub by_marks : Relation
by_marks = tie_broken (by_grade (λ u. slice_index (5 ∷ 6 ∷ 7 ∷ 8 ∷ []) u))

abbrev pub BowTieCoreNumbers : Type 0
BowTieCoreNumbers = (u : ℕ) → u < 5 → IsCore bow_tie u 2

abbrev pub BowTieListed : Type 0
BowTieListed =
    Lists bow_tie by_points 1 9 every ((0, 0 ∷ 1 ∷ 2 ∷ 3 ∷ 4 ∷ []) ∷ (2, 1 ∷ 2 ∷ 3 ∷ 4 ∷ []) ∷ (4, 3 ∷ 4 ∷ []) ∷ [])
    × Lists bow_tie by_points 1 9 innermost ((4, 3 ∷ 4 ∷ []) ∷ [])
    × Lists bow_tie by_points 2 9 every ((0, 0 ∷ 1 ∷ 2 ∷ 3 ∷ 4 ∷ []) ∷ (2, 2 ∷ 3 ∷ 4 ∷ []) ∷ [])
    × Lists bow_tie by_points 2 1 every ((2, 2 ∷ 3 ∷ 4 ∷ []) ∷ [])
    × Lists bow_tie by_points 3 9 every []

abbrev pub PairsListed : Type 0
PairsListed = Lists pairs by_marks 1 9 every ((0, 0 ∷ 1 ∷ []) ∷ (2, 2 ∷ 3 ∷ []) ∷ [])

-- ---- tempting errors

-- the larger set of all five has the same weakest person
abbrev pub TriangleIsNoCircle : Type 0
TriangleIsNoCircle = Circle bow_tie by_points 2 (these (0 ∷ 1 ∷ 2 ∷ [])) → ⊥

-- two parts of what remains are not one circle
abbrev pub TwoPartsAreNoCircle : Type 0
TwoPartsAreNoCircle = Circle pairs by_marks 1 (these (0 ∷ 1 ∷ 2 ∷ 3 ∷ [])) → ⊥

-- when 0 falls, 1 has too few neighbours left and falls too
abbrev pub FallenNeighbourCounts : Type 0
FallenNeighbourCounts =
    (Tight bow_tie 2 (these (1 ∷ 2 ∷ 3 ∷ 4 ∷ [])) → ⊥)
    × ((g : Graph) (le : Relation) (k : ℕ) (S : Set) (v : ℕ) → v ∈ S → degree g S v < k → Circle g le k S → ⊥)
