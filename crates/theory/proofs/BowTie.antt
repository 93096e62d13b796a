-- The bow tie and two pairs: what the checker computes is what the definitions say.
use Rattle.std.proofs.Common.{◌≡◌, ℕ, ◌<◌, true, [], ◌∷◌, refl, ap, subst, arith}
use Rattle.std.proofs.lemmas.Bool.{both_ways}
use Rattle.theory.specs.Cores.{circle_at, component, core_number, IsCore}
use Rattle.theory.specs.Example.{BowTieCoreNumbers, BowTieListed, bow_tie, by_marks, by_points, computed, FallenNeighbourCounts, pairs, PairsListed, these, TriangleIsNoCircle, TwoPartsAreNoCircle}
use Rattle.theory.specs.Graphs.{degree, Lawful}
use Rattle.theory.specs.Listing.{Choice, every, innermost, listing, Lists}
use Rattle.theory.specs.Orders.{StrictOrder, Weakest}
use Rattle.theory.specs.Sets.{◌among◌, any_of, Set}
use Rattle.theory.proofs.Circles.{circle_known}
use Rattle.theory.proofs.Components.{component_greatest}
use Rattle.theory.proofs.Data.{data_is_lawful}
use Rattle.theory.proofs.Entries.{listing_is_right}
use Rattle.theory.proofs.Lists.{all_among, has_among}
use Rattle.theory.proofs.Members.{members_rise}
use Rattle.theory.proofs.Numbers.{core_number_is_greatest}
use Rattle.theory.proofs.Rankings.{tie_broken_lem}

pub bow_tie_lawful : Lawful bow_tie
bow_tie_lawful = data_is_lawful.0 5 _

pub points_order : StrictOrder by_points
points_order = tie_broken_lem _ (data_is_lawful.1 _)

pub pairs_lawful : Lawful pairs
pairs_lawful = data_is_lawful.0 4 _

pub marks_order : StrictOrder by_marks
marks_order = tie_broken_lem _ (data_is_lawful.1 _)

bow_tie_lem : (k r : ℕ) (ch : Choice) → Lists bow_tie by_points k r ch (listing bow_tie by_points k r ch)
bow_tie_lem k r ch = (listing_is_right bow_tie bow_tie_lawful by_points points_order.0 points_order.1 k r ch).0

one_every : listing bow_tie by_points 1 9 every ≡ (0, 0 ∷ 1 ∷ 2 ∷ 3 ∷ 4 ∷ []) ∷ (2, 1 ∷ 2 ∷ 3 ∷ 4 ∷ []) ∷ (4, 3 ∷ 4 ∷ []) ∷ []
unfolding computed
one_every = refl

one_innermost : listing bow_tie by_points 1 9 innermost ≡ (4, 3 ∷ 4 ∷ []) ∷ []
unfolding computed
one_innermost = refl

two_every : listing bow_tie by_points 2 9 every ≡ (0, 0 ∷ 1 ∷ 2 ∷ 3 ∷ 4 ∷ []) ∷ (2, 2 ∷ 3 ∷ 4 ∷ []) ∷ []
unfolding computed
two_every = refl

two_strongest : listing bow_tie by_points 2 1 every ≡ (2, 2 ∷ 3 ∷ 4 ∷ []) ∷ []
unfolding computed
two_strongest = refl

three_every : listing bow_tie by_points 3 9 every ≡ []
unfolding computed
three_every = refl

pub bow_tie_listed : BowTieListed
bow_tie_listed =
    (rw one_every at (bow_tie_lem 1 9 every), rw one_innermost at (bow_tie_lem 1 9 innermost), rw two_every at (bow_tie_lem 2 9 every), rw two_strongest at (bow_tie_lem 2 1 every), rw three_every at (bow_tie_lem 3 9 every))

pairs_computed : listing pairs by_marks 1 9 every ≡ (0, 0 ∷ 1 ∷ []) ∷ (2, 2 ∷ 3 ∷ []) ∷ []
unfolding computed
pairs_computed = refl

pub pairs_listed : PairsListed
pairs_listed = rw pairs_computed at (listing_is_right pairs pairs_lawful by_marks marks_order.0 marks_order.1 1 9 every).0

pub bow_tie_core_numbers : BowTieCoreNumbers
unfolding computed
bow_tie_core_numbers u l = subst (IsCore bow_tie u) (all_among (λ v. core_number bow_tie v ≡ 2) (0 ∷ 1 ∷ 2 ∷ 3 ∷ 4 ∷ []) u (refl, (refl, (refl, (refl, (refl, tt))))) (five u l)) (core_number_is_greatest bow_tie u l).0
  where
    five : (u : ℕ) → u < 5 → u among (0 ∷ 1 ∷ 2 ∷ 3 ∷ 4 ∷ [])
    five u l = ((members_rise (λ _. true) 5).1 u).1 l refl

pub triangle_is_no_circle : TriangleIsNoCircle
unfolding computed
triangle_is_no_circle c =
    let S : Set = these (0 ∷ 1 ∷ 2 ∷ []) in
    let we : Weakest by_points S 0 = (refl, λ v m. all_among (λ v. by_points 0 v ≡ true) (0 ∷ 1 ∷ 2 ∷ []) v (refl, (refl, (refl, tt))) ((has_among v (0 ∷ 1 ∷ 2 ∷ [])).0 m)) in
    let e : S ≡ circle_at bow_tie by_points 2 0 = (circle_known bow_tie bow_tie_lawful by_points points_order.0 points_order.1 2 S 0 c we).1 in
    both_ways (S 3) refl (ap (λ X. X 3) e)

pub two_parts_are_no_circle : TwoPartsAreNoCircle
unfolding computed
two_parts_are_no_circle c =
    let S : Set = these (0 ∷ 1 ∷ 2 ∷ 3 ∷ []) in
    both_ways (component pairs S 0 2) refl (component_greatest pairs pairs_lawful S 0 (omega arith) refl S (λ _ m. m) c.connected refl 2 refl)

few_left : degree bow_tie (these (1 ∷ 2 ∷ 3 ∷ 4 ∷ [])) 1 ≡ 1
unfolding computed
few_left = refl

pub fallen_neighbour_counts : FallenNeighbourCounts
unfolding any_of
fallen_neighbour_counts = ((λ ti. omega (arith, ti 1 refl, few_left)), (λ g le k S v m l c. omega (arith, c.tight v m)))
