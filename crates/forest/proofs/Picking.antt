-- Picking from the tree gives the listing.
use Rattle.std.proofs.Common.{◌≡◌, ℕ, ◌-◌, ◌<◌, Bool, true, false, not, List, map, length, drop, filter, sym, refl, ap, ◌∙◌, subst, arith}
use mathlib.Core.List.{map-map}
use mathlib.Core.Option.{none, Option, some}
use Rattle.std.specs.List.{range_with_len}
use Rattle.std.proofs.lemmas.List.{drop-map, length-map}
use Rattle.std.proofs.lemmas.Bool.{both_ways, eq-eqb, eqb-true, not_from_false, not-true}
use Rattle.theory.specs.Circles.{Circle, Innermost}
use Rattle.theory.specs.Cores.{circle_at}
use Rattle.theory.specs.Graphs.{Graph, Lawful}
use Rattle.theory.specs.Listing.{Choice, Entry, entry, every, innermost, is_chosen, last, listing, names, ranked}
use Rattle.theory.specs.Orders.{by_number, Order, Strict, Weakest}
use Rattle.theory.specs.Sets.{◌among◌, any, any_of, members, Pairwise, Relation}
use Rattle.theory.proofs.Counting.{any_tells}
use Rattle.theory.proofs.Entries.{Head, head_person, head_wanted, wanted_head}
use Rattle.theory.proofs.Lists.{among_kept, among_map, any_of_lem, drop_among, kept_all, kept_among, kept_map, map_among, map_same, pairwise_kept, pairwise_map}
use Rattle.theory.proofs.Named.{chosen_tells}
use Rattle.theory.proofs.Ranked.{ranked_holds, ranked_rising, rising_same}
use Rattle.theory.proofs.Rankings.{below_weaker, by_number_lem}
use Rattle.theory.proofs.Sets.{false_since, same_test}
use Rattle.forest.specs.Holders.{chosen_round, holder, is}
use Rattle.forest.specs.Picking.{choose, gathered, pick}
use Rattle.forest.specs.RoundLaws.{RoundsList}
use Rattle.forest.specs.Rounds.{circle, key, rounds}
use Rattle.forest.specs.TreeLaws.{PickingLists}
use Rattle.forest.specs.Trees.{named, tree, tree_for, Vertex, vertex_at}
use Rattle.forest.proofs.Climbing.{gathers, inner_tells, same_key}
use Rattle.forest.proofs.Holders.{holder_some, is_tells}
use Rattle.forest.proofs.Places.{among_placed, counted_below, placed_among, placed_pairwise}
use Rattle.forest.proofs.Rounds.{circle_at_lem, circle_circle, circle_complete, keys_rise}
use Rattle.forest.proofs.Trees.{of_tree}

module _ (g : Graph) (o : Lawful g) (le : Relation) (t : Order le) (str : Strict le) (k : ℕ) where
  chosen_names : List Vertex → List ℕ
  chosen_names vs = map (λ x. x.weakest) vs

  names_rise : Pairwise (λ u v. by_number le u v ≡ true) (chosen_names (tree_for g le k))
  unfolding chosen_names tree_for vertex_at
  names_rise = pairwise_map (λ x y. by_number le x.weakest y.weakest ≡ true) (λ u v. by_number le u v ≡ true) (λ x. x.weakest) (λ x y h. h) (map (vertex_at g le k) (range_with_len 0 (rounds g le k)))
      (placed_pairwise (vertex_at g le k) (λ x y. by_number le x.weakest y.weakest ≡ true) 0 (rounds g le k) (λ i j l b. below_weaker le t (by_number le) (by_number_lem le t) (key g le k i) (key g le k j) (keys_rise g o le t str k i j l (omega arith))))

  -- does some vertex have the circle of i as its holder
  holds : ℕ → Vertex → Bool
  holds i y = is (key g le k i) y.under

  held_child : (i : ℕ) → i < rounds g le k → any_of (holds i) (tree_for g le k) ≡ true → (j : ℕ) × (j < rounds g le k) × (holder g le k j ≡ some i)
  unfolding tree_for vertex_at holds
  held_child i l h =
      let (x, m, q) = (any_of_lem (holds i) (map (vertex_at g le k) (range_with_len 0 (rounds g le k)))).0 h in
      let (j, _, b, e) = among_placed (vertex_at g le k) 0 (rounds g le k) x m in
      let q' : is (key g le k i) (named (key g le k) (holder g le k j)) ≡ true = subst (λ x. holds i x ≡ true) e q in
      let lj : j < rounds g le k = omega arith in
      (j, lj, go j lj (holder g le k j) refl q')
    where
      go : (j : ℕ) → j < rounds g le k → (x : Option ℕ) → holder g le k j ≡ x → is (key g le k i) (named (key g le k) x) ≡ true → holder g le k j ≡ some i
      go j lj none e q = absurd (both_ways false refl q)
      go j lj (some a) e q = e ∙ ap some (same_key g o le t str k a i (omega (arith, (holder_some g o le t str k j a lj e).0)) l (eqb-true _ _ q))

  child_held : (i j : ℕ) → j < rounds g le k → holder g le k j ≡ some i → any_of (holds i) (tree_for g le k) ≡ true
  unfolding tree_for vertex_at holds
  child_held i j l e =
      (any_of_lem (holds i) (map (vertex_at g le k) (range_with_len 0 (rounds g le k)))).1 (vertex_at g le k j) (placed_among (vertex_at g le k) 0 (rounds g le k) j (omega arith) (omega arith))
      (subst (λ x. is (key g le k i) (named (key g le k) x) ≡ true) (sym e) (eq-eqb (key g le k i) (key g le k i) refl))

  chosen_name : (ch : Choice) (w : ℕ) → w among chosen_names (choose ch (tree_for g le k)) → (i : ℕ) × (i < rounds g le k) × (w ≡ key g le k i) × Head g le k ch w
  unfolding chosen_names choose tree_for vertex_at holds
  chosen_name every w m =
      let (x, n, e) = map_among (λ x. x.weakest) (map (vertex_at g le k) (range_with_len 0 (rounds g le k))) w m in
      let (i, _, b, q) = among_placed (vertex_at g le k) 0 (rounds g le k) x n in
      let l : i < rounds g le k = omega arith in
      let s : w ≡ key g le k i = e ∙ ap (λ x. x.weakest) q in
      let (c, we) = circle_circle g o le t str k i l in
      (i, l, s, (circle g le k i, c, subst (Weakest le (circle g le k i)) (sym s) we))
  chosen_name innermost w m =
      let (x, n, e) = map_among (λ x. x.weakest) (filter (λ x. not (any_of (λ y. is x.weakest y.under) us)) us) w m in
      let (n', q) = kept_among (λ x. not (any_of (λ y. is x.weakest y.under) us)) us x n in
      let (i, _, b, q') = among_placed (vertex_at g le k) 0 (rounds g le k) x n' in
      let l : i < rounds g le k = omega arith in
      let s : w ≡ key g le k i = e ∙ ap (λ x. x.weakest) q' in
      let (c, we) = circle_circle g o le t str k i l in
      let free : not (any_of (λ y. is (key g le k i) y.under) us) ≡ true = subst (λ x. not (any_of (λ y. is x.weakest y.under) us) ≡ true) q' q in
      (i, l, s, (circle g le k i, (c, (inner_tells g o le t str k i l).1 (λ j bj h. both_ways _ (not-true _ free) (child_held i j bj h))), subst (Weakest le (circle g le k i)) (sym s) we))
    where
      us : List Vertex
      us = map (vertex_at g le k) (range_with_len 0 (rounds g le k))

  name_chosen : (ch : Choice) (w : ℕ) → Head g le k ch w → w among chosen_names (choose ch (tree_for g le k))
  unfolding chosen_names choose tree_for vertex_at holds
  name_chosen every w (S, c, n) =
      let (h, b, e, s) = circle_complete g o le t str k S w c n in
      subst (λ z. z among map (λ x. x.weakest) (map (vertex_at g le k) (range_with_len 0 (rounds g le k)))) e (among_map (λ x. x.weakest) (map (vertex_at g le k) (range_with_len 0 (rounds g le k))) (vertex_at g le k h) (placed_among (vertex_at g le k) 0 (rounds g le k) h (omega arith) (omega arith)))
  name_chosen innermost w (S, (c, inner), n) =
      let (h, b, e, s) = circle_complete g o le t str k S w c n in
      let free : not (any_of (holds h) us) ≡ true = not_from_false _ (false_since _ (λ q. let (j, l, x) = held_child h b q in (inner_tells g o le t str k h b).0 (subst (Innermost (Circle g le k)) (sym s) inner) j l x)) in
      subst (λ z. z among map (λ x. x.weakest) (filter (λ x. not (any_of (λ y. is x.weakest y.under) us)) us)) e (among_map (λ x. x.weakest) (filter (λ x. not (any_of (λ y. is x.weakest y.under) us)) us) (vertex_at g le k h) (among_kept (λ x. not (any_of (λ y. is x.weakest y.under) us)) us (vertex_at g le k h) (placed_among (vertex_at g le k) 0 (rounds g le k) h (omega arith) (omega arith)) free))
    where
      us : List Vertex
      us = map (vertex_at g le k) (range_with_len 0 (rounds g le k))

  choose_rise : (ch : Choice) → Pairwise (λ u v. by_number le u v ≡ true) (chosen_names (choose ch (tree_for g le k)))
  unfolding chosen_names choose tree_for vertex_at
  choose_rise every = names_rise
  choose_rise innermost =
      pairwise_map (λ x y. by_number le x.weakest y.weakest ≡ true) (λ u v. by_number le u v ≡ true) (λ x. x.weakest) (λ x y h. h) _
      (pairwise_kept (λ x y. by_number le x.weakest y.weakest ≡ true) _ (map (vertex_at g le k) (range_with_len 0 (rounds g le k))) (placed_pairwise (vertex_at g le k) (λ x y. by_number le x.weakest y.weakest ≡ true) 0 (rounds g le k) (λ i j l b. below_weaker le t (by_number le) (by_number_lem le t) (key g le k i) (key g le k j) (keys_rise g o le t str k i j l (omega arith)))))

  names_same : (ch : Choice) → chosen_names (choose ch (tree_for g le k)) ≡ filter (is_chosen g le (by_number le) k ch) (ranked (by_number le) g.size)
  names_same ch =
      rising_same (by_number le) (by_number_lem le t) (chosen_names (choose ch (tree_for g le k))) (filter (is_chosen g le (by_number le) k ch) (ranked (by_number le) g.size)) (choose_rise ch) (pairwise_kept _ (is_chosen g le (by_number le) k ch) (ranked (by_number le) g.size) (ranked_rising (by_number le) (by_number_lem le t) g.size))
      (λ v m. let (i, l, e, want) = chosen_name ch v m in among_kept (is_chosen g le (by_number le) k ch) (ranked (by_number le) g.size) v (ranked_holds (by_number le) (by_number_lem le t) g.size v (head_person g o le t str k ch v want)) ((chosen_tells g o le t (by_number le) (by_number_lem le t) k ch v).1 (head_wanted g o le t str k ch v want)))
      (λ v m. name_chosen ch v (wanted_head g o le t str k ch v ((chosen_tells g o le t (by_number le) (by_number_lem le t) k ch v).0 (kept_among (is_chosen g le (by_number le) k ch) (ranked (by_number le) g.size) v m).1)))

module _ (g : Graph) (o : Lawful g) (le : Relation) (t : Order le) (str : Strict le) (k : ℕ) where
  chosen_rounds : (ch : Choice) → chosen_names g o le t str k (choose ch (tree_for g le k)) ≡ map (key g le k) (filter (chosen_round g le k ch) (range_with_len 0 (rounds g le k)))
  unfolding chosen_names choose tree_for vertex_at chosen_round holds
  chosen_rounds every = map-map (λ x. x.weakest) (vertex_at g le k) (range_with_len 0 (rounds g le k)) ∙ ap (map (key g le k)) (sym (kept_all (λ _. true) (range_with_len 0 (rounds g le k)) (λ _ _. refl)))
  chosen_rounds innermost =
      ap (map (λ x. x.weakest)) (kept_map _ (vertex_at g le k) (chosen_round g le k innermost) (range_with_len 0 (rounds g le k)) (λ i m. same i (counted_below (rounds g le k) i m)))
      ∙ map-map (λ x. x.weakest) (vertex_at g le k) (filter (chosen_round g le k innermost) (range_with_len 0 (rounds g le k)))
    where
      test : (i : ℕ) → i < rounds g le k → any_of (holds g o le t str k i) (tree_for g le k) ≡ any (λ j. is i (holder g le k j)) (rounds g le k)
      test i l =
          same_test _ _ (λ h. let (j, b, e) = held_child g o le t str k i l h in (any_tells (λ j. is i (holder g le k j)) (rounds g le k)).1 (j, b, (is_tells i (holder g le k j)).1 e))
          (λ h. let (j, b, q) = (any_tells (λ j. is i (holder g le k j)) (rounds g le k)).0 h in child_held g o le t str k i j b ((is_tells i (holder g le k j)).0 q))

      same : (i : ℕ) → i < rounds g le k → not (any_of (λ y. is (key g le k i) y.under) (map (vertex_at g le k) (range_with_len 0 (rounds g le k)))) ≡ not (any (λ j. is i (holder g le k j)) (rounds g le k))
      same i l = ap not (test i l)

pub rounds_list : RoundsList
unfolding listing names last entry chosen_names
rounds_list g o le t str k r ch =
    ap (λ xs. map (entry g le k) (drop (length xs - r) xs)) (sym (names_same g o le t str k ch) ∙ chosen_rounds g o le t str k ch)
    ∙ ap (map (entry g le k)) (ap (λ n. drop (n - r) (map (key g le k) chosen)) (length-map chosen (key g le k)) ∙ drop-map (key g le k) (length chosen - r) chosen)
    ∙ map-map (entry g le k) (key g le k) (drop (length chosen - r) chosen)
    ∙ map_same _ _ (drop (length chosen - r) chosen) each
  where
    chosen : List ℕ
    chosen = filter (chosen_round g le k ch) (range_with_len 0 (rounds g le k))

    each : (i : ℕ) → i among drop (length chosen - r) chosen → entry g le k (key g le k i) ≡ (key g le k i, members (circle g le k i) g.size)
    each i m =
        let n = (kept_among (chosen_round g le k ch) (range_with_len 0 (rounds g le k)) i (drop_among (length chosen - r) chosen i m)).0 in
        ap (λ S. (key g le k i, members S g.size)) (sym (circle_at_lem g o le t str k i (counted_below (rounds g le k) i n)))

pub picking_lists : PickingLists
unfolding pick listing names last entry chosen_names
picking_lists g o le t str k r ch l = one ∙ two ∙ three
  where
    T : List Vertex
    T = tree_for g le k

    xs : List ℕ
    xs = filter (is_chosen g le (by_number le) k ch) (ranked (by_number le) g.size)

    from : List Vertex → ℕ → Entry
    from vs w = (w, members (gathered vs w) g.size)

    one : pick g.size (tree g le) k r ch ≡ map (from T) (last r (map (λ x. x.weakest) (choose ch T)))
    one = ap (λ vs. map (from vs) (last r (map (λ x. x.weakest) (choose ch vs)))) (of_tree g o le t str k l)

    two : map (from T) (last r (map (λ x. x.weakest) (choose ch T))) ≡ map (from T) (last r xs)
    two = ap (λ ws. map (from T) (last r ws)) (names_same g o le t str k ch)

    three : map (from T) (last r xs) ≡ map (entry g le k) (last r xs)
    three = map_same (from T) (entry g le k) (drop (length xs - r) xs) each
      where
        each : (w : ℕ) → w among drop (length xs - r) xs → from T w ≡ entry g le k w
        each w m =
            let m' : w among map (λ x. x.weakest) (choose ch T) = subst (λ ws. w among ws) (sym (names_same g o le t str k ch)) (drop_among (length xs - r) xs w m) in
            let (i, b, e, want) = chosen_name g o le t str k ch w m' in
            let s : gathered T w ≡ circle_at g le k w = subst (λ z. gathered T z ≡ circle_at g le k z) (sym e) (gathers g o le t str k i b ∙ circle_at_lem g o le t str k i b) in
            ap (λ S. (w, members S g.size)) s
