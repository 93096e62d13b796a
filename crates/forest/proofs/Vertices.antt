-- The tree has the vertex of each circle and no other, and tells holders.
use Rattle.std.proofs.Common.{◌≡◌, ℕ, zero, suc, ◌<◌, ◌≤◌, false, eqb, List, map, Decides, sym, refl, ap, ◌∙◌, subst, inl, inr, arith}
use mathlib.Core.Option.{none, Option, some}
use Rattle.std.specs.List.{range_with_len}
use Rattle.std.proofs.lemmas.Bool.{both_ways, eq-eqb, eqb-true}
use Rattle.theory.specs.Circles.{Circle, Own}
use Rattle.theory.specs.Cores.{core_number}
use Rattle.theory.specs.Graphs.{Graph, Lawful}
use Rattle.theory.specs.Orders.{Order, Strict, Weakest}
use Rattle.theory.specs.Sets.{◌among◌, any_of, ListOf, Pairwise, Relation, Set, ◌∈◌}
use Rattle.theory.proofs.Circles.{circle_weakest, group_of}
use Rattle.theory.proofs.Lists.{all_among, all_from, among_append, any_of_lem, pairwise_append, pairwise_same}
use Rattle.theory.proofs.Members.{list_same, members_rise}
use Rattle.theory.proofs.Own.{dropped_are_own}
use Rattle.theory.proofs.Sets.{false_since}
use Rattle.forest.specs.HolderLaws.{Held}
use Rattle.forest.specs.Holders.{holder, HolderOf}
use Rattle.forest.specs.Picking.{of_number, under_of}
use Rattle.forest.specs.Rounds.{circle, key, own, rounds}
use Rattle.forest.specs.TreeLaws.{HolderIsFound, TreeIsRight}
use Rattle.forest.specs.Trees.{Before, largest, named, tree, tree_for, TreeOf, trees_from, Vertex, vertex_at, VertexOf}
use Rattle.forest.proofs.Climbing.{under_is}
use Rattle.forest.proofs.Holders.{holders_are_smallest, larger, nest_key}
use Rattle.forest.proofs.Places.{among_placed, placed_among, placed_pairwise}
use Rattle.forest.proofs.Rounds.{circle_circle, circle_complete, keys_rise, left_within, own_left, own_of_circle}
use Rattle.forest.proofs.Trees.{among_tree, of_among, of_tree, tree_among, vertex_number}

module _ (g : Graph) (o : Lawful g) (le : Relation) (t : Order le) (str : Strict le) (k : ℕ) where
  pub holder_of_lem : (i : ℕ) → i < rounds g le k → HolderOf g le k (circle g le k i) (named (key g le k) (holder g le k i))
  holder_of_lem i l = go (holder g le k i) refl
    where
      held : Held g le k
      held = holders_are_smallest g o le t str k

      go : (h : Option ℕ) → holder g le k i ≡ h → HolderOf g le k (circle g le k i) (named (key g le k) h)
      go none e = λ S c larger. let (v, m, f) = larger.1 in both_ways (circle g le k i v) f (held.outermost i l e S c larger.0 v m)
      go (some j) e =
          let (a, p, d, m) = held.smallest i j l e in
          let lj : j < rounds g le k = omega arith in
          let (c, we) = circle_circle g o le t str k j lj in
          let gone : circle g le k i (key g le k j) ≡ false = false_since _ (λ n. omega (arith, (nest_key g o le t str k i j lj n).0)) in
          (circle g le k j, c, we, (p, (key g le k j, we.0, gone)), λ S c' larger. elim (m S c' larger.0) [ inl q ↦ absurd (let (v, n, f) = larger.1 in both_ways (circle g le k i v) f (q v n)) | inr q ↦ q ])

  pub own_tells : (i : ℕ) → i < rounds g le k → (v : ℕ) → (v ∈ own g le k i → Own (Circle g le k) (circle g le k i) v) × (Own (Circle g le k) (circle g le k i) v → v ∈ own g le k i)
  own_tells i l v =
      let (c, we) = circle_circle g o le t str k i l in
      let tells = dropped_are_own g o le t str k (circle g le k i) (key g le k i) c we in
      let same = own_of_circle g o le t str k i l in
      ((λ m. tells.0 v (subst (λ X. v ∈ X) same m)), (λ x. subst (λ X. v ∈ X) (sym same) (tells.1 v x)))

  pub vertex_right : (i : ℕ) → i < rounds g le k → VertexOf g le (circle g le k i) (vertex_at g le k i)
  unfolding vertex_at
  vertex_right i l =
      let (c, we) = circle_circle g o le t str k i l in
      let (rise, holds, _) = members_rise (own g le k i) g.size in
      record { circled = c; least = we; held = holder_of_lem i l; owned = (rise, λ v. ((λ m. (own_tells i l v).0 ((holds v).0 m).1), (λ x. let m = (own_tells i l v).1 x in (holds v).1 (left_within g o le t str k i v (own_left g o le t str k i v m)) m))) }

module _ (g : Graph) (le : Relation) (str : Strict le) where
  pub holder_one : (k : ℕ) (S : Set) (h h' : Option ℕ) → HolderOf g le k S h → HolderOf g le k S h' → h ≡ h'
  holder_one k S none none a b = refl
  holder_one k S none (some h') a (S', c, we, larger, least) = absurd (a S' c larger)
  holder_one k S (some h) none (S', c, we, larger, least) b = absurd (b S' c larger)
  holder_one k S (some h) (some h') (S', c, we, larger, least) (S'', c'', we'', larger'', least'') =
      ap some (str h h' (we.1 h' (least'' S' c larger h' we''.0)) (we''.1 h (least S'' c'' larger'' h we.0)))

  pub vertex_one : (S : Set) (x y : Vertex) → x.k ≡ y.k → VertexOf g le S x → VertexOf g le S y → x ≡ y
  vertex_one S x y e vx vy = λ i. record { k = e i; weakest = least i; under = under i; persons = persons i }
    where
      least : x.weakest ≡ y.weakest
      least = str x.weakest y.weakest (vx.least.1 y.weakest vy.least.0) (vy.least.1 x.weakest vx.least.0)

      under : x.under ≡ y.under
      under = holder_one x.k S x.under y.under vx.held (subst (λ k. HolderOf g le k S y.under) (sym e) vy.held)

      persons : x.persons ≡ y.persons
      persons = list_same (Own (Circle g le x.k) S) x.persons y.persons vx.owned (subst (λ k. ListOf (Own (Circle g le k) S) y.persons) (sym e) vy.owned)

before_one_way : (le : Relation) (x y : Vertex) → Before le x y → Before le y x → ⊥
before_one_way le x y (inl l) (inl l') = omega arith
before_one_way le x y (inl l) (inr (e, b)) = omega arith
before_one_way le x y (inr (e, b)) (inl l) = omega arith
before_one_way le x y (inr (e, b)) (inr (e', b')) = both_ways (le y.weakest x.weakest) b.1 b'.0

module _ (g : Graph) (o : Lawful g) (le : Relation) (t : Order le) (str : Strict le) where
  among_trees : (a n : ℕ) (x : Vertex) → x among trees_from g le a n → (a ≤ x.k) × ((i : ℕ) × (i < rounds g le x.k) × (x ≡ vertex_at g le x.k i))
  unfolding trees_from
  among_trees a zero x m = absurd m
  among_trees a (suc n) x m = elim (among_append (tree_for g le a) (trees_from g le (suc a) n) x m) [
    | inl p ↦ at_once a x p
    | inr p ↦ let (l, r) = among_trees (suc a) n x p in (omega arith, r)
  ]
    where
      at_once : (a : ℕ) (x : Vertex) → x among tree_for g le a → (a ≤ x.k) × ((i : ℕ) × (i < rounds g le x.k) × (x ≡ vertex_at g le x.k i))
      at_once a x p =
          let (i, b, e, q) = among_tree g le a x p in
          (omega arith, (i, subst (λ z. i < rounds g le z) (sym q) b, subst (λ z. x ≡ vertex_at g le z i) (sym q) e))

  trees_rise : (a n : ℕ) → Pairwise (Before le) (trees_from g le a n)
  unfolding trees_from tree_for vertex_at
  trees_rise a zero = tt
  trees_rise a (suc n) =
      pairwise_append (Before le) (tree_for g le a) (trees_from g le (suc a) n) (placed_pairwise (vertex_at g le a) (Before le) 0 (rounds g le a) (λ i j l b. inr (refl, keys_rise g o le t str a i j l (omega arith)))) (trees_rise (suc a) n)
      (λ x y m m'. let (i, b, e, q) = among_tree g le a x m in let later = (among_trees (suc a) n y m').0 in inl (omega arith))

  pub tree_of : TreeOf g le (tree g le)
  unfolding tree
  tree_of =
      record {
        each = all_from _ (tree g le) (λ x m. let (l, r) = among_trees 1 (largest (core_number g) g.size) x m in let (i, b, e) = r in (l, (circle g le x.k i, subst (VertexOf g le (circle g le x.k i)) (sym e) (vertex_right g o le t str x.k i b))));
        every = there_is;
        rising = trees_rise 1 (largest (core_number g) g.size);
      }
    where
      there_is : (k : ℕ) (S : Set) → 1 ≤ k → Circle g le k S → (x : Vertex) × (x among tree g le) × (x.k ≡ k) × VertexOf g le S x
      there_is k S l c =
          let (w, we) = circle_weakest g o le t k S (group_of c) in
          let (i, b, e, s) = circle_complete g o le t str k S w c we in
          let m : vertex_at g le k i among of_number k (tree g le) = subst (λ vs. vertex_at g le k i among vs) (sym (of_tree g o le t str k l)) (tree_among g le k i b) in
          (vertex_at g le k i, of_among k (tree g le) (vertex_at g le k i) m, vertex_number g le k i, subst (λ X. VertexOf g le X (vertex_at g le k i)) s (vertex_right g o le t str k i b))

part_of_tree : (g : Graph) (le : Relation) → Strict le → (us vs : List Vertex) → TreeOf g le us → TreeOf g le vs → (x : Vertex) → x among us → x among vs
part_of_tree g le str us vs tu tv x m =
    let (l, y) = all_among _ us x tu.each m in
    let (S, vo) = y in
    let (z, n, e, vo') = tv.every x.k S l vo.circled in
    subst (λ z. z among vs) (vertex_one g le str S z x e vo' vo) n

pub tree_is_right : TreeIsRight
tree_is_right g o le t str =
    let this : TreeOf g le (tree g le) = tree_of g o le t str in
    (this, λ vs tv. pairwise_same (Before le) (before_one_way le) vs (tree g le) tv.rising this.rising (part_of_tree g le str vs (tree g le) tv this) (part_of_tree g le str (tree g le) vs this tv))

module _ (g : Graph) (o : Lawful g) (le : Relation) (t : Order le) (str : Strict le) (k w : ℕ) where
  under_holder : (S : Set) → Circle g le k S → Weakest le S w → HolderOf g le k S (under_of (tree_for g le k) w)
  under_holder S c we =
      let (i, l, e, s) = circle_complete g o le t str k S w c we in
      let same : under_of (tree_for g le k) w ≡ named (key g le k) (holder g le k i) = subst (λ z. under_of (tree_for g le k) z ≡ named (key g le k) (holder g le k i)) e (under_is g o le t str k i l) in
      subst (λ h. HolderOf g le k S h) (sym same) (subst (λ X. HolderOf g le k X (named (key g le k) (holder g le k i))) s (holder_of_lem g o le t str k i l))

  decides : Decides (any_of (λ x. eqb x.weakest w) (tree_for g le k)) ((S : Set) × Circle g le k S × Weakest le S w)
  unfolding tree_for vertex_at
  decides = (
    (λ h.
        let (x, m, q) = (any_of_lem (λ x. eqb x.weakest w) (map (vertex_at g le k) (range_with_len 0 (rounds g le k)))).0 h in
        let (i, _, b, e) = among_placed (vertex_at g le k) 0 (rounds g le k) x m in
        let r : key g le k i ≡ w = sym (ap (λ x. x.weakest) e) ∙ eqb-true x.weakest w q in
        let c = circle_circle g o le t str k i (omega arith) in
        (circle g le k i, c.0, subst (Weakest le (circle g le k i)) r c.1)),
    (λ y.
        let (S, c, we) = y in
        let (i, l, e, s) = circle_complete g o le t str k S w c we in
        (any_of_lem (λ x. eqb x.weakest w) (map (vertex_at g le k) (range_with_len 0 (rounds g le k)))).1 (vertex_at g le k i) (placed_among (vertex_at g le k) 0 (rounds g le k) i (omega arith) (omega arith)) (eq-eqb (key g le k i) w e)),
  )

Looked : Graph → Relation → ℕ → ℕ → List Vertex → Type 0
Looked g le k w vs = Decides (any_of (λ x. eqb x.weakest w) vs) ((S : Set) × Circle g le k S × Weakest le S w) × ((S : Set) → Circle g le k S → Weakest le S w → HolderOf g le k S (under_of vs w))

pub holder_is_found : HolderIsFound
unfolding Looked
holder_is_found g o le t str k w l = subst (Looked g le k w) (sym (of_tree g o le t str k l)) (decides g o le t str k w, under_holder g o le t str k w)
