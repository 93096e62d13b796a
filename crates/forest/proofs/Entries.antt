-- Each person of the k-core stands once among the vertices for k.
use Rattle.std.proofs.Common.{◌≡◌, ℕ, zero, suc, ◌+◌, ◌<◌, true, false, ◌⊎◌, List, [], ◌∷◌, ◌++◌, map, length, sym, refl, ap, ◌∙◌, inl, inr, arith}
use Rattle.std.specs.List.{range_with_len}
use Rattle.std.proofs.lemmas.Bool.{both_ways, cases_Bool}
use Rattle.theory.specs.Cores.{core, core_number, everyone}
use Rattle.theory.specs.Graphs.{Graph, Lawful}
use Rattle.theory.specs.Orders.{Order, Strict}
use Rattle.theory.specs.Sets.{bit, count, members, Relation, total}
use Rattle.theory.proofs.Counting.{count_cut, count_none, count_one}
use Rattle.theory.proofs.Members.{members_rise}
use Rattle.theory.proofs.Numbers.{number_tells}
use Rattle.theory.proofs.Totals.{count_total, rows_columns, total_same, total_suc, total_zero_is}
use Rattle.forest.specs.Rounds.{own, round, rounds}
use Rattle.forest.specs.TreeLaws.{EntriesAreCoreNumbers}
use Rattle.forest.specs.Trees.{entries, largest, tree, tree_for, trees_from, Vertex, vertex_at}
use Rattle.forest.proofs.Holders.{round_less}
use Rattle.forest.proofs.Places.{largest_is}
use Rattle.forest.proofs.Rounds.{left_first, own_left, own_round, round_own}

entries_nothing : entries [] ≡ 0
unfolding entries
entries_nothing = refl

entries_append : (xs ys : List Vertex) → entries (xs ++ ys) ≡ entries xs + entries ys
unfolding entries
entries_append [] ys = omega arith
entries_append (x ∷ xs) ys = omega (arith, entries_append xs ys)

entries_placed : (f : ℕ → Vertex) (a n : ℕ) → entries (map f (range_with_len a n)) + total (λ i. length (f i).persons) a ≡ total (λ i. length (f i).persons) (a + n)
unfolding entries
entries_placed f a zero = let e : a + 0 ≡ a = omega arith in omega (arith, ap (total (λ i. length (f i).persons)) e)
entries_placed f a (suc n) =
    let e : a + 1 + n ≡ a + suc n = omega arith in
    let one : a + 1 ≡ suc a = omega arith in
    omega (arith, entries_placed f (a + 1) n, ap (total (λ i. length (f i).persons)) one, total_suc (λ i. length (f i).persons) a, ap (total (λ i. length (f i).persons)) e)

module _ (g : Graph) (o : Lawful g) (le : Relation) (t : Order le) (str : Strict le) where
  -- each person of the k-core stands once in the tree for k
  entries_for : (k : ℕ) → entries (tree_for g le k) ≡ count (core g k (everyone g)) g.size
  unfolding tree_for vertex_at
  entries_for k =
      let n : ℕ = g.size in
      let m : ℕ = rounds g le k in
      let e : 0 + m ≡ m = omega arith in
      let long : (i : ℕ) → length (members (own g le k i) n) ≡ count (own g le k i) n = λ i. (members_rise (own g le k i) n).2 in
      let sum = entries_placed (vertex_at g le k) 0 m in
      omega (arith, sum, total_zero_is (λ i. length (vertex_at g le k i).persons), ap (total (λ i. length (vertex_at g le k i).persons)) e, total_same (λ i. length (vertex_at g le k i).persons) (λ i. count (own g le k i) n) m (λ i _. long i), rows_columns (own g le k) m n, total_same (λ u. count (λ i. own g le k i u) m) (λ u. bit (core g k (everyone g) u)) n (λ u _. once u (cases_Bool (core g k (everyone g) u))), count_total (core g k (everyone g)) n)
    where
      once : (u : ℕ) → (core g k (everyone g) u ≡ true) ⊎ (core g k (everyone g) u ≡ false) → count (λ i. own g le k i u) (rounds g le k) ≡ bit (core g k (everyone g) u)
      once u (inl m) = count_one (λ i. own g le k i u) (rounds g le k) (round g le k u) (round_less g o le t str k u m) (round_own g o le t str k u m) (λ j _ n. sym (own_round g o le t str k j u n)) ∙ sym (ap bit m)
      once u (inr f) = count_none (λ i. own g le k i u) (rounds g le k) (λ i _ n. both_ways _ f (left_first g o le t str k i u (own_left g o le t str k i u n))) ∙ sym (ap bit f)

  entries_trees : (k n : ℕ) → entries (trees_from g le (suc k) n) + total (λ j. count (core g (suc j) (everyone g)) g.size) k ≡ total (λ j. count (core g (suc j) (everyone g)) g.size) (k + n)
  unfolding trees_from
  entries_trees k zero = let e : k + 0 ≡ k = omega arith in omega (arith, entries_nothing, ap (total (λ j. count (core g (suc j) (everyone g)) g.size)) e)
  entries_trees k (suc n) =
      let e : suc k + n ≡ k + suc n = omega arith in
      omega (arith, entries_append (tree_for g le (suc k)) (trees_from g le (suc (suc k)) n), entries_for (suc k), entries_trees (suc k) n, total_suc (λ j. count (core g (suc j) (everyone g)) g.size) k, ap (total (λ j. count (core g (suc j) (everyone g)) g.size)) e)

pub entries_are_core_numbers : EntriesAreCoreNumbers
unfolding tree
entries_are_core_numbers g o le t str =
    let L : ℕ = largest (core_number g) g.size in
    let F : ℕ → ℕ = λ j. count (core g (suc j) (everyone g)) g.size in
    let e : 0 + L ≡ L = omega arith in
    omega (arith, entries_trees g o le t str 0 L, total_zero_is F, ap (total F) e, rows_columns (λ j. core g (suc j) (everyone g)) L g.size, total_same (λ u. count (λ j. core g (suc j) (everyone g) u) L) (core_number g) g.size each)
  where
    each : (u : ℕ) → u < g.size → count (λ j. core g (suc j) (everyone g) u) (largest (core_number g) g.size) ≡ core_number g u
    each u l =
        count_cut (λ j. core g (suc j) (everyone g) u) (core_number g u) (largest (core_number g) g.size) (λ v h. (number_tells g u l (suc v)).1 (omega arith)) (λ v h m. omega (arith, (number_tells g u l (suc v)).0 m))
        (largest_is (core_number g) g.size u l)
