-- The vertices for k are those of the rounds for k.
use Rattle.std.proofs.Common.{◌≡◌, ℕ, zero, suc, ◌+◌, ◌<◌, ◌≤◌, eqb, ◌≢◌, ◌⊎◌, List, [], ◌++◌, map, sym, refl, ap, ◌∙◌, subst, inl, inr, arith}
use Rattle.std.specs.List.{range_with_len}
use Rattle.std.proofs.lemmas.List.Elements.{filter-append}
use Rattle.std.proofs.lemmas.List.{append-nil}
use Rattle.std.proofs.lemmas.Bool.{cases_eq, cases_lt, eq-eqb, ne_eqb}
use Rattle.theory.specs.Cores.{core_number, everyone}
use Rattle.theory.specs.Graphs.{Graph, Lawful}
use Rattle.theory.specs.Orders.{Order, Strict}
use Rattle.theory.specs.Sets.{◌among◌, Relation}
use Rattle.theory.proofs.Cores.{core_within}
use Rattle.theory.proofs.Lists.{kept_all, kept_among, kept_none}
use Rattle.theory.proofs.Numbers.{number_tells}
use Rattle.forest.specs.Picking.{of_number}
use Rattle.forest.specs.Rounds.{left, rounds}
use Rattle.forest.specs.TreeLaws.{VerticesForK}
use Rattle.forest.specs.Trees.{largest, tree, tree_for, trees_from, Vertex, vertex_at}
use Rattle.forest.proofs.Places.{among_placed, largest_is, placed_among}
use Rattle.forest.proofs.Rounds.{rounds_in}

pub vertex_number : (g : Graph) (le : Relation) (k i : ℕ) → (vertex_at g le k i).k ≡ k
unfolding vertex_at
vertex_number g le k i = refl

module _ (g : Graph) (le : Relation) where
  pub among_tree : (k : ℕ) (x : Vertex) → x among tree_for g le k → (i : ℕ) × (i < rounds g le k) × (x ≡ vertex_at g le k i) × (x.k ≡ k)
  unfolding tree_for
  among_tree k x m = let (i, _, b, e) = among_placed (vertex_at g le k) 0 (rounds g le k) x m in (i, omega arith, e, ap (λ x. x.k) e ∙ vertex_number g le k i)

  pub tree_among : (k i : ℕ) → i < rounds g le k → vertex_at g le k i among tree_for g le k
  unfolding tree_for
  tree_among k i b = placed_among (vertex_at g le k) 0 (rounds g le k) i (omega arith) (omega arith)

module _ (g : Graph) (le : Relation) where
  of_same : (k : ℕ) → of_number k (tree_for g le k) ≡ tree_for g le k
  unfolding of_number
  of_same k = kept_all (λ x. eqb x.k k) (tree_for g le k) (λ x m. eq-eqb x.k k (among_tree g le k x m).3)

  of_other : (k j : ℕ) → j ≢ k → of_number k (tree_for g le j) ≡ []
  unfolding of_number
  of_other k j d = kept_none (λ x. eqb x.k k) (tree_for g le j) (λ x m. ne_eqb x.k k (λ e. d (sym (among_tree g le j x m).3 ∙ e)))

  of_append : (k : ℕ) (xs ys : List Vertex) → of_number k (xs ++ ys) ≡ of_number k xs ++ of_number k ys
  unfolding of_number
  of_append k xs ys = filter-append (λ x. eqb x.k k) xs ys

  of_out : (k a n : ℕ) → (k < a) ⊎ (a + n ≤ k) → of_number k (trees_from g le a n) ≡ []
  unfolding trees_from of_number
  of_out k a zero c = refl
  of_out k a (suc n) c = of_append k (tree_for g le a) (trees_from g le (suc a) n) ∙ rw (of_other k a (elim c [ inl l ↦ (λ e. omega arith) | inr l ↦ (λ e. omega arith) ])) (of_out k (suc a) n (elim c [ inl l ↦ inl (omega arith) | inr l ↦ inr (omega arith) ]))

  of_in : (k a n : ℕ) → a ≤ k → k < a + n → of_number k (trees_from g le a n) ≡ tree_for g le k
  unfolding trees_from
  of_in k a zero l h = absurd (omega arith)
  of_in k a (suc n) l h = of_append k (tree_for g le a) (trees_from g le (suc a) n) ∙ go (cases_eq a k) (of_in k (suc a) n)
    where
      go : (a ≡ k) ⊎ (a ≡ k → ⊥) → (suc a ≤ k → k < suc a + n → of_number k (trees_from g le (suc a) n) ≡ tree_for g le k) → of_number k (tree_for g le a) ++ of_number k (trees_from g le (suc a) n) ≡ tree_for g le k
      go (inl e) ih = rw (of_out k (suc a) n (inl (omega arith))) (append-nil _ ∙ subst (λ b. of_number k (tree_for g le b) ≡ tree_for g le k) (sym e) (of_same k))
      go (inr d) ih = rw (of_other k a d) (ih (omega arith) (omega arith))

module _ (g : Graph) (o : Lawful g) (le : Relation) (t : Order le) (str : Strict le) where
  -- beyond the largest core number there is no circle
  no_tree : (k : ℕ) → largest (core_number g) g.size < k → tree_for g le k ≡ []
  unfolding tree_for left
  no_tree k l = ap (λ n. map (vertex_at g le k) (range_with_len 0 n)) z
    where
      none_there : (0 < rounds g le k) → ⊥
      none_there h =
          let (u, m) = rounds_in g o le t str k 0 h in
          let i : u < g.size = core_within g k (everyone g) u m in
          omega (arith, (number_tells g u i k).0 m, largest_is (core_number g) g.size u i)

      z : rounds g le k ≡ 0
      z = omega (arith, none_there)

  pub of_tree : (k : ℕ) → 1 ≤ k → of_number k (tree g le) ≡ tree_for g le k
  unfolding tree
  of_tree k l = elim (cases_lt (largest (core_number g) g.size) k) [
    | inl h ↦ of_out g le k 1 (largest (core_number g) g.size) (inr (omega arith)) ∙ sym (no_tree k h)
    | inr h ↦ of_in g le k 1 (largest (core_number g) g.size) l (omega arith)
  ]

pub vertices_for_k : VerticesForK
unfolding tree_for
vertices_for_k g o le t str k l = of_tree g o le t str k l

pub of_among : (k : ℕ) (vs : List Vertex) (x : Vertex) → x among of_number k vs → x among vs
unfolding of_number
of_among k vs x m = (kept_among (λ x. eqb x.k k) vs x m).0
