-- Following holders in the tree is following them by rounds, and gathers the circles.
use Rattle.std.proofs.Common.{◌≡◌, ℕ, zero, suc, ◌<◌, ◌≤◌, Bool, true, false, ◌&&◌, eqb, ◌⊎◌, List, map, length, sym, refl, ap, ◌∙◌, subst, inl, inr, arith}
use mathlib.Core.Option.{none, Option, some}
use Rattle.std.specs.List.{range_with_len}
use Rattle.std.proofs.lemmas.List.FromFn.{length-map-range_with_len}
use Rattle.std.proofs.lemmas.Bool.{and_from, and_parts, both_ways, cases_lt, eq-eqb, eqb-true, ne_eqb, or_cases, or_left, or_right}
use Rattle.theory.specs.Circles.{Circle, Innermost}
use Rattle.theory.specs.Graphs.{Graph, Lawful}
use Rattle.theory.specs.Orders.{Order, Strict}
use Rattle.theory.specs.Sets.{any_of, has, members, Pairwise, Relation, ◌∈◌}
use Rattle.theory.proofs.Circles.{circle_weakest, group_of}
use Rattle.theory.proofs.Lists.{any_of_lem, has_among}
use Rattle.theory.proofs.Members.{among_members, members_among}
use Rattle.theory.proofs.Orders.{le_self}
use Rattle.theory.proofs.Sets.{same_set}
use Rattle.forest.specs.Holders.{holder, is, Reaches, there, up}
use Rattle.forest.specs.Picking.{climbs, gathered, under_of}
use Rattle.forest.specs.Rounds.{circle, key, own, round, rounds}
use Rattle.forest.specs.TreeLaws.{ChildrenStandLater, VerticesGatherCircles}
use Rattle.forest.specs.Trees.{named, tree_for, Vertex, vertex_at}
use Rattle.forest.proofs.Holders.{circle_round, holder_some, key_held, nest_key, reach_key, reach_last, reach_sub, reached, reaching, round_less}
use Rattle.forest.proofs.Places.{among_placed, placed_among, placed_pairwise, under_placed}
use Rattle.forest.proofs.Rounds.{circle_circle, circle_complete, keys_rise, left_first, left_within, own_left, own_round, round_own}
use Rattle.forest.proofs.Trees.{of_tree}

module _ (g : Graph) (o : Lawful g) (le : Relation) (t : Order le) (str : Strict le) (k : ℕ) where
  pub same_key : (i j : ℕ) → i < rounds g le k → j < rounds g le k → key g le k i ≡ key g le k j → i ≡ j
  same_key i j a b e = go (cases_lt i j) (cases_lt j i)
    where
      apart : (x y : ℕ) → x < y → y < rounds g le k → key g le k x ≡ key g le k y → ⊥
      apart x y l b e = let (h, f) = keys_rise g o le t str k x y l b in both_ways _ f (subst (λ z. le z (key g le k x) ≡ true) e (le_self le t (key g le k x)))

      go : (i < j) ⊎ (j ≤ i) → (j < i) ⊎ (i ≤ j) → i ≡ j
      go (inl l) y = absurd (apart i j l b e)
      go (inr l) (inl h) = absurd (apart j i h a (sym e))
      go (inr l) (inr h) = omega arith

  pub under_is : (i : ℕ) → i < rounds g le k → under_of (tree_for g le k) (key g le k i) ≡ named (key g le k) (holder g le k i)
  unfolding tree_for vertex_at
  under_is i l = under_placed (vertex_at g le k) 0 (rounds g le k) i (omega arith) (omega arith) (λ j _ h e. let s = same_key j i (omega arith) l e in omega arith)

  pub climb_reach : (n a i : ℕ) → a < rounds g le k → i < rounds g le k → climbs (tree_for g le k) n (key g le k a) (key g le k i) ≡ true → Reaches g le k a i
  unfolding climbs
  climb_reach zero a i l h c = subst (Reaches g le k a) (same_key a i l h (eqb-true _ _ c)) there
  climb_reach (suc n) a i l h c = elim (or_cases _ _ c) [
    | inl e ↦ subst (Reaches g le k a) (same_key a i l h (eqb-true _ _ e)) there
    | inr e ↦ go (holder g le k a) refl (subst (λ x. elim x [ none ↦ false | some b ↦ climbs (tree_for g le k) n b (key g le k i) ] ≡ true) (under_is a l) e) (climb_reach n)
  ]
    where
      go : (x : Option ℕ) → holder g le k a ≡ x → elim (named (key g le k) x) [ none ↦ false | some b ↦ climbs (tree_for g le k) n b (key g le k i) ] ≡ true → ((a i : ℕ) → a < rounds g le k → i < rounds g le k → climbs (tree_for g le k) n (key g le k a) (key g le k i) ≡ true → Reaches g le k a i) → Reaches g le k a i
      go none e q ih = absurd (both_ways false refl q)
      go (some b) e q ih = up e (ih b i (omega (arith, (holder_some g o le t str k a b l e).0)) h q)

  pub reach_climb : (n a i : ℕ) → a ≤ n → a < rounds g le k → Reaches g le k a i → climbs (tree_for g le k) n (key g le k a) (key g le k i) ≡ true
  unfolding climbs
  reach_climb zero a i l h there = eq-eqb _ _ refl
  reach_climb zero a i l h (up {b} e r) = absurd (omega (arith, (holder_some g o le t str k a b h e).0))
  reach_climb (suc n) a i l h there = or_left _ _ (eq-eqb (key g le k a) (key g le k a) refl)
  reach_climb (suc n) a i l h (up {b} e r) =
      let s = (holder_some g o le t str k a b h e).0 in
      or_right (eqb (key g le k a) (key g le k i)) _ (subst (λ x. elim x [ none ↦ false | some b ↦ climbs (tree_for g le k) n b (key g le k i) ] ≡ true) (sym (under_is a h ∙ ap (named (key g le k)) e)) (reach_climb n b i (omega arith) (omega arith) r))

  -- what is gathered at a key is the circle
  pub gathers : (i : ℕ) → i < rounds g le k → gathered (tree_for g le k) (key g le k i) ≡ circle g le k i
  unfolding gathered tree_for vertex_at
  gathers i l = same_set _ _ fro to
    where
      us : List Vertex
      us = map (vertex_at g le k) (range_with_len 0 (rounds g le k))

      test : ℕ → Vertex → Bool
      test v x = has v x.persons && climbs us (length us) x.weakest (key g le k i)

      fro : (v : ℕ) → any_of (test v) us ≡ true → v ∈ circle g le k i
      fro v h =
          let (x, m, q) = (any_of_lem (test v) us).0 h in
          let (a, _, b, e) = among_placed (vertex_at g le k) 0 (rounds g le k) x m in
          let q' : test v (vertex_at g le k a) ≡ true = subst (λ x. test v x ≡ true) e q in
          let (p, c) = and_parts (has v (members (own g le k a) g.size)) _ q' in
          let w : v ∈ own g le k a = (among_members (own g le k a) 0 g.size v ((has_among v _).0 p)).2 in
          let r : Reaches g le k a i = climb_reach (length us) a i (omega arith) l c in
          reached g o le t str k i v (left_first g o le t str k a v (own_left g o le t str k a v w)) (subst (λ z. Reaches g le k z i) (sym (own_round g o le t str k a v w)) r)

      to : (v : ℕ) → v ∈ circle g le k i → any_of (test v) us ≡ true
      to v m =
          let c = (circle_round g o le t str k i v m).0 in
          let a : ℕ = round g le k v in
          let b : a < rounds g le k = round_less g o le t str k v c in
          let w : v ∈ own g le k a = round_own g o le t str k v c in
          let s : v < g.size = left_within g o le t str k a v (own_left g o le t str k a v w) in
          (any_of_lem (test v) us).1 (vertex_at g le k a) (placed_among (vertex_at g le k) 0 (rounds g le k) a (omega arith) (omega arith))
          (and_from _ _ ((has_among v _).1 (members_among (own g le k a) 0 g.size v (omega arith) (omega arith) w)) (reach_climb (length us) a i (omega (arith, length-map-range_with_len (vertex_at g le k) 0 (rounds g le k))) b (reaching g o le t str k i v m)))

  -- innermost: no round has it as its holder
  pub inner_tells : (i : ℕ) → i < rounds g le k → (Innermost (Circle g le k) (circle g le k i) → (j : ℕ) → j < rounds g le k → holder g le k j ≡ some i → ⊥) × (((j : ℕ) → j < rounds g le k → holder g le k j ≡ some i → ⊥) → Innermost (Circle g le k) (circle g le k i))
  inner_tells i l = (
    (λ inner j b e.
        let (a, p, f) = holder_some g o le t str k j i b e in
        let m : key g le k i ∈ circle g le k j = inner (circle g le k j) (circle_circle g o le t str k j b).0 p (key g le k i) (key_held g o le t str k i l) in
        omega (arith, (nest_key g o le t str k j i l m).0)),
    (λ none-holds S c p.
        let (w, we) = circle_weakest g o le t k S (group_of c) in
        let (h, b, e, s) = circle_complete g o le t str k S w c we in
        let m : key g le k h ∈ circle g le k i = p (key g le k h) (subst (λ X. key g le k h ∈ X) s (key_held g o le t str k h b)) in
        elim (reach_last g o le t str k (reach_key g o le t str k h h (omega arith) b i m)) [
          | inl q ↦ (λ v n. subst (λ X. v ∈ X) s (subst (λ x. v ∈ circle g le k x) (sym q) n))
          | inr x ↦ absurd (none-holds x.0 (child_less x.0 h b x.2) x.1)
        ]),
  )
    where
      child_less : (x h : ℕ) → h < rounds g le k → Reaches g le k h x → x < rounds g le k
      child_less x h b r = omega (arith, (reach_sub g o le t str k b r).0)

pub vertices_gather_circles : VerticesGatherCircles
vertices_gather_circles g o le t str k l S w c we =
    let (i, b, e, s) = circle_complete g o le t str k S w c we in
    subst (λ vs. gathered vs w ≡ S) (sym (of_tree g o le t str k l)) (subst (λ z. gathered (tree_for g le k) z ≡ S) e (gathers g o le t str k i b ∙ s))

pub children_stand_later : ChildrenStandLater
unfolding tree_for vertex_at
children_stand_later g o le t str k l =
    subst (Pairwise (λ x y. is y.weakest x.under ≡ false)) (sym (of_tree g o le t str k l))
    (placed_pairwise (vertex_at g le k) (λ x y. is y.weakest x.under ≡ false) 0 (rounds g le k) (λ i j c b. go i j c (omega arith) (holder g le k i) refl))
  where
    go : (i j : ℕ) → i < j → j < rounds g le k → (h : Option ℕ) → holder g le k i ≡ h → is (key g le k j) (named (key g le k) h) ≡ false
    go i j c b none e = refl
    go i j c b (some h) e =
        let s = (holder_some g o le t str k i h (omega arith) e).0 in
        ne_eqb (key g le k h) (key g le k j) (λ q. let z = same_key g o le t str k h j (omega arith) b q in omega arith)
