-- The tree of the bow tie, by computing.
use Rattle.std.proofs.Common.{◌≡◌, refl, subst}
use Rattle.theory.specs.Example.{bow_tie, by_points}
use Rattle.theory.proofs.BowTie.{bow_tie_lawful, points_order}
use Rattle.forest.specs.Example.{BowTieTree, bow_tie_vertices, grown}
use Rattle.forest.specs.Trees.{tree, TreeOf}
use Rattle.forest.proofs.Vertices.{tree_is_right}

tree_computed : tree bow_tie by_points ≡ bow_tie_vertices
unfolding grown
tree_computed = refl

pub bow_tie_tree : BowTieTree
unfolding grown
bow_tie_tree = (subst (TreeOf bow_tie by_points) tree_computed (tree_is_right bow_tie bow_tie_lawful by_points points_order.0 points_order.1).0, refl, refl, refl, refl, refl, refl)
