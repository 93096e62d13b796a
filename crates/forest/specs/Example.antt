-- The tree of the bow tie, computed. Assumes nothing.
--     vertex k w h ps             the vertex with these parts
--     grown                       a proof that names it on its `unfolding` line computes with rounds and trees
--     BowTieTree                  its vertices, its ten entries, what is picked from them, and the holders
use Rattle.std.specs.Prelude.{◌≡◌, ℕ, false, List, [], ◌∷◌}
use Rattle.std.proofs.Math.Option.{Option, some, none}
use Rattle.theory.specs.Sets.{any_of}
use Rattle.theory.specs.Listing.{every, innermost}
use Rattle.theory.specs.Example.{bow_tie, by_points, computed}
use Rattle.forest.specs.Rounds.{next, left, key, own, circle, rounds, round}
use Rattle.forest.specs.Holders.{last_below, holder, is, chosen_round, total_from}
use Rattle.forest.specs.Trees.{Vertex, TreeOf, vertex_at, tree_for, trees_from, largest, tree, entries}
use Rattle.forest.specs.Picking.{of_number, under_of, climbs, gathered, choose, pick}

abbrev pub vertex : ℕ → ℕ → Option ℕ → List ℕ → Vertex
vertex k w h ps = record { k = k; weakest = w; under = h; persons = ps }

unfoldable pub grown : ℕ
unfolding computed next left key own circle rounds round last_below holder chosen_round total_from vertex_at tree_for trees_from largest tree entries of_number under_of climbs gathered choose pick
grown = 0

abbrev pub bow_tie_vertices : List Vertex
bow_tie_vertices =
    vertex 1 0 none (0 ∷ [])
    ∷ vertex 1 2 (some 0) (1 ∷ 2 ∷ [])
    ∷ vertex 1 4 (some 2) (3 ∷ 4 ∷ [])
    ∷ vertex 2 0 none (0 ∷ 1 ∷ [])
    ∷ vertex 2 2 (some 0) (2 ∷ 3 ∷ 4 ∷ [])
    ∷ []

abbrev pub BowTieTree : Type 0
BowTieTree =
    TreeOf bow_tie by_points bow_tie_vertices
    × (entries bow_tie_vertices ≡ 10)
    × (pick 5 bow_tie_vertices 2 9 every ≡ (0, 0 ∷ 1 ∷ 2 ∷ 3 ∷ 4 ∷ []) ∷ (2, 2 ∷ 3 ∷ 4 ∷ []) ∷ [])
    × (pick 5 bow_tie_vertices 1 9 innermost ≡ (4, 3 ∷ 4 ∷ []) ∷ [])
    × (under_of (of_number 1 bow_tie_vertices) 4 ≡ some 2)
    × (under_of (of_number 1 bow_tie_vertices) 0 ≡ none)
    × (any_of (λ x. is 1 (some x.weakest)) (of_number 1 bow_tie_vertices) ≡ false)
