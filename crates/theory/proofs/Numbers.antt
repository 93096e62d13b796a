-- Core numbers: the function and the relation, the circles a person is in, and their sum.
use Rattle.std.proofs.Common.{◌≡◌, ℕ, zero, suc, ◌<◌, ◌≤◌, arith}
use Rattle.std.proofs.lemmas.Bool.{and_parts}
use Rattle.theory.specs.CircleLaws.{CoreNumberTellsCircles}
use Rattle.theory.specs.Circles.{Circle, Group, LevelCircle}
use Rattle.theory.specs.CoreLaws.{CoreNumberIsGreatest, CoreSizesSumToCoreNumbers}
use Rattle.theory.specs.Cores.{above, circle_at, component, core, core_number, everyone, IsCore}
use Rattle.theory.specs.Graphs.{degree, Graph, Lawful, links}
use Rattle.theory.specs.Orders.{Order, StrictOrder, Weakest}
use Rattle.theory.specs.Sets.{count, Relation, Set, total, ◌∈◌}
use Rattle.theory.proofs.Circles.{at_circle, at_takes, at_weakest, circle_weakest, from_level, group_core}
use Rattle.theory.proofs.Components.{component_holds, core_group}
use Rattle.theory.proofs.Cores.{core_bound, core_greatest, core_less, core_tight, core_within, everyone_in, everyone_within}
use Rattle.theory.proofs.Counting.{count_front, count_mono}
use Rattle.theory.proofs.Sets.{same_test}
use Rattle.theory.proofs.Totals.{ends, rows_columns, total_le}

-- the core number tells in which cores a person is
pub number_tells : (g : Graph) (u : ℕ) → u < g.size → (k : ℕ) → (u ∈ core g k (everyone g) → k ≤ core_number g u) × (k ≤ core_number g u → u ∈ core g k (everyone g))
unfolding core_number
number_tells g u l zero = ((λ m. omega arith), (λ _. core_greatest g 0 (everyone g) (everyone g) (everyone_within g) (λ _ m. m) (λ _ _. omega arith) u (everyone_in g u l)))
number_tells g u l (suc c) =
    let front = count_front (λ c. core g (suc c) (everyone g) u) (λ v m. core_less g (suc v) (suc (suc v)) (everyone g) (omega arith) u m) g.size c in
    ((λ m. front.0 (core_bound g (suc c) (everyone g) u m) m), (λ h. front.1 h))

pub is_core : (g : Graph) (u : ℕ) → u < g.size → IsCore g u (core_number g u)
is_core g u l =
    record {
      met = (core g (core_number g u) (everyone g), core_within g (core_number g u) (everyone g), core_tight g (core_number g u) (everyone g), (number_tells g u l (core_number g u)).1 (omega arith));
      most = λ c S i t m. (number_tells g u l c).0 (core_greatest g c (everyone g) S i (λ v s. everyone_in g v (i v s)) t u m);
    }

pub core_number_is_greatest : CoreNumberIsGreatest
core_number_is_greatest g u l = (is_core g u l, only)
  where
    only : (c : ℕ) → IsCore g u c → c ≡ core_number g u
    only c x =
        let (S, i, t, m) = x.met in
        let (S', i', t', m') = (is_core g u l).met in
        omega (arith, (is_core g u l).most c S i t m, x.most (core_number g u) S' i' t' m')

pub in_circle : (g : Graph) → Lawful g → (le : Relation) → Order le → (k u : ℕ) → u ∈ core g k (everyone g) → (S : Set) × LevelCircle g le k S × (u ∈ S)
in_circle g o le t k u m = go (circle_weakest g o le t k D gr)
  where
    D : Set
    D = component g (core g k (everyone g)) u

    gr : Group g k D
    gr = core_group g o k (everyone g) u m

    held : u ∈ D
    held = component_holds g o (core g k (everyone g)) u (core_within g k (everyone g) u m) m

    go : (w : ℕ) × Weakest le D w → (S : Set) × LevelCircle g le k S × (u ∈ S)
    go (w, we) =
        let c : w ∈ core g k (above le w) = group_core g o le t k D w gr we w we.0 in
        (circle_at g le k w, at_circle g o le t k w c, at_takes g o le t k w c D gr we.1 w we.0 (at_weakest g o le t k w c).0 u held)

pub level_core_number_tells_circles : CoreNumberTellsCircles LevelCircle Order
level_core_number_tells_circles g o le t u l k =
    ((λ x. let (S, c, m) = x in (is_core g u l).most k S c.group.inside c.group.tight m), (λ h. in_circle g o le t k u ((number_tells g u l k).1 h)))

pub core_number_tells_circles : CoreNumberTellsCircles Circle StrictOrder
core_number_tells_circles g o le (t, str) u l k = (
  (λ x. let (S, c, m) = x in (is_core g u l).most k S c.inside c.tight m),
  (λ h. let (S, c, m) = (level_core_number_tells_circles g o le t u l k).1 h in (S, from_level g le t k S c, m)),
)

pub core_sizes_sum_to_core_numbers : CoreSizesSumToCoreNumbers
unfolding core_number links degree
core_sizes_sum_to_core_numbers g o =
    (rows_columns (λ k. core g (suc k) (everyone g)) g.size g.size, omega (arith, few, ends g.linked same o.apart g.size))
  where
    same : (u v : ℕ) → g.linked u v ≡ g.linked v u
    same u v = same_test (g.linked u v) (g.linked v u) (o.symmetric u v) (o.symmetric v u)

    at_most : (S : Set) (u : ℕ) → degree g S u ≤ count (g.linked u) g.size
    at_most S u = count_mono _ _ g.size (λ v _ m. (and_parts (g.linked u v) (S v) m).0)

    each : (u : ℕ) → u < g.size → core_number g u ≤ count (g.linked u) g.size
    each u l =
        let (S, i, t, m) = (is_core g u l).met in
        omega (arith, t u m, at_most S u)

    few : total (core_number g) g.size ≤ total (λ u. count (g.linked u) g.size) g.size
    few = total_le _ _ g.size each
