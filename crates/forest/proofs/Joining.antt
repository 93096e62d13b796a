-- The parts of the rounds from j on, and the step back.
use Rattle.std.proofs.Common.{◌≡◌, ℕ, suc, ◌<◌, ◌≤◌, true, false, cond, ◌||◌, eqb, ◌⊎◌, Decides, sym, refl, ap, ◌∙◌, subst, inl, inr, arith}
use mathlib.Core.Option.{none, Option, some}
use Rattle.std.proofs.lemmas.Bool.{both_ways, cases_Bool, cases_eq, cases_lt, eq-eqb, ne_eqb, or_from, or_left, or_right}
use Rattle.theory.specs.Cores.{component}
use Rattle.theory.specs.Graphs.{Graph, Inside, Lawful, Walk}
use Rattle.theory.specs.Orders.{Order, Strict}
use Rattle.theory.specs.Sets.{Relation, Set, ◌∈◌, ◌⊆◌}
use Rattle.theory.proofs.Components.{component_closed, component_connected, component_greatest, component_holds, component_part, component_same, component_takes}
use Rattle.theory.proofs.Sets.{minus_in, same_set}
use Rattle.theory.proofs.Walks.{walk_closed, walk_mono}
use Rattle.forest.specs.Holders.{holder, Reaches, there, up}
use Rattle.forest.specs.Joining.{rejoined, Roots, Touched}
use Rattle.forest.specs.JoiningLaws.{JoiningStepsBack, RootsEndHolders}
use Rattle.forest.specs.Rounds.{circle, key, left, own, round, rounds}
use Rattle.forest.proofs.Holders.{held_by_round, holder_is, holder_some, key_held, nest, nest_key, reach_key, reach_sub, round_less}
use Rattle.forest.proofs.Rounds.{circle_circle, circle_left, left_falls, left_first, left_mono, left_within, own_circle, round_tells, round_weakest}

module _ (g : Graph) (o : Lawful g) (le : Relation) (t : Order le) (str : Strict le) (k : ℕ) where
  abbrev L : ℕ → Set
  L = left g le k

  abbrev K : ℕ → ℕ
  K = key g le k

  abbrev Ci : ℕ → Set
  Ci = circle g le k

  abbrev N : ℕ
  N = rounds g le k

  abbrev rd : ℕ → ℕ
  rd = round g le k

  ins : (j : ℕ) → Inside g (L j)
  ins = left_within g o le t str k

  same_circle : (i j : ℕ) → i < N → j < N → Ci i ≡ Ci j → i ≡ j
  same_circle i j a b e =
      let p = (nest_key g o le t str k j i a (subst (λ S. K i ∈ S) e (key_held g o le t str k i a))).0 in
      let q = (nest_key g o le t str k i j b (subst (λ S. K j ∈ S) (sym e) (key_held g o le t str k j b))).0 in
      omega arith

  -- the part of a person is the part of the person's round
  part_round : (j u : ℕ) → u ∈ L j → (rd u < N) × (j ≤ rd u) × (K (rd u) ∈ L j) × (component g (L j) u ≡ component g (L j) (K (rd u)))
  part_round j u x =
      let c = left_first g o le t str k j u x in
      let a : ℕ = round g le k u in
      let b = round_less g o le t str k u c in
      let l : j ≤ a = (round_tells g o le t str k u c j).0 x in
      let sub : circle g le k a ⊆ left g le k j = λ v m. left_mono g o le t str k j a v l (circle_left g o le t str k a v m) in
      let xk : key g le k a ∈ left g le k j = sub (key g le k a) (key_held g o le t str k a b) in
      let m : u ∈ component g (left g le k j) (key g le k a) = component_greatest g o (left g le k j) (key g le k a) (ins j (key g le k a) xk) xk (circle g le k a) sub (circle_circle g o le t str k a b).0.connected (key_held g o le t str k a b) u (held_by_round g o le t str k u c) in
      (b, l, xk, component_same g o (left g le k j) (left_within g o le t str k j) (key g le k a) u xk m)

  key_left : (j a : ℕ) → j ≤ a → a < N → K a ∈ L j
  key_left j a l b = left_mono g o le t str k j a (key g le k a) l (round_weakest g o le t str k a b).0

  module _ (j : ℕ) (root : ℕ → ℕ) (ro : Roots g le k j root) where
    -- the circle of the root holds the key
    root_holds : (a : ℕ) → j ≤ a → a < N → K a ∈ Ci (root a)
    root_holds a l b = subst (λ S. key g le k a ∈ S) (ro.part a l b) (component_holds g o (left g le k j) (key g le k a) (left_within g o le t str k j (key g le k a) (key_left j a l b)) (key_left j a l b))

    -- a circle of round j or later that has the key of a lies in the circle of the root of a
    root_takes : (a r : ℕ) → j ≤ a → a < N → j ≤ r → r < N → K a ∈ Ci r → Ci r ⊆ Ci (root a)
    root_takes a r l b lr br m =
        subst (λ S. circle g le k r ⊆ S) (ro.part a l b)
        (component_greatest g o (left g le k j) (key g le k a) (left_within g o le t str k j (key g le k a) (key_left j a l b)) (key_left j a l b) (circle g le k r) (λ v n. left_mono g o le t str k j r v lr (circle_left g o le t str k r v n)) (circle_circle g o le t str k r br).0.connected m)

    root_free : (a : ℕ) → j ≤ a → a < N → (h : ℕ) → holder g le k (root a) ≡ some h → h < j
    root_free a l b h e =
        let (lo, hi) = ro.between a l b in
        let bb : root a < rounds g le k = omega arith in
        let (s, p, f) = holder_some g o le t str k (root a) h bb e in
        elim (cases_lt h j) [
          | inl q ↦ q
          | inr q ↦ absurd (let m = root_takes a h l b q (omega arith) (p (key g le k a) (root_holds a l b)) in let z = (nest_key g o le t str k (root a) h (omega arith) (m (key g le k h) (key_held g o le t str k h (omega arith)))).0 in omega arith)
        ]

    root_only : (a r : ℕ) → j ≤ a → a < N → j ≤ r → Reaches g le k a r → ((h : ℕ) → holder g le k r ≡ some h → h < j) → root a ≡ r
    root_only a r l bn lr re free =
        let sub = reach_sub g o le t str k bn re in
        let br : r < rounds g le k = omega (arith, sub.0) in
        let m : key g le k a ∈ circle g le k r = sub.1 (key g le k a) (key_held g o le t str k a bn) in
        let n : key g le k r ∈ circle g le k (root a) = root_takes a r l bn lr br m (key g le k r) (key_held g o le t str k r br) in
        by br refl (reach_key g o le t str k r r (omega arith) br (root a) n)
      where
        by : {x : ℕ} → r < rounds g le k → x ≡ root a → Reaches g le k r x → root a ≡ r
        by br e there = sym e
        by br e (up {b} h q) =
            let lo = (ro.between a l bn).0 in
            let f = free b h in
            let d = (holder_some g o le t str k r b br h).0 in
            let z = (reach_sub g o le t str k (omega arith) q).0 in
            absurd (omega arith)

    root_person : (u : ℕ) → u ∈ L j → component g (L j) u ≡ Ci (root (rd u))
    root_person u x = let (b, l, xk, e) = part_round j u x in e ∙ ro.part (round g le k u) l b

    root_person_less : (u : ℕ) → u ∈ L j → (root (rd u) < N) × (j ≤ root (rd u))
    root_person_less u x = let (b, l, xk, e) = part_round j u x in let (lo, hi) = ro.between (round g le k u) l b in (omega arith, lo)

    root_walk : (u v : ℕ) → u ∈ L j → v ∈ L j → (root (rd u) ≡ root (rd v) → Walk g (L j) u v) × (Walk g (L j) u v → root (rd u) ≡ root (rd v))
    root_walk u v x y = (
      (λ e.
          let m : v ∈ component g (left g le k j) u = subst (λ S. v ∈ S) (sym (root_person u x ∙ ap (circle g le k) e ∙ sym (root_person v y))) (component_holds g o (left g le k j) v (ins j v y) y) in
          walk_mono (component_part g o (left g le k j) u (ins j u x) x) (component_connected g o (left g le k j) u (ins j u x) x u v (component_holds g o (left g le k j) u (ins j u x) x) m)),
      (λ w.
          let m : v ∈ component g (left g le k j) u = component_takes g o (left g le k j) u (ins j u x) x (left g le k j) (λ _ s. s) (component_holds g o (left g le k j) u (ins j u x) x) w in
          same_circle (root (round g le k u)) (root (round g le k v)) (root_person_less u x).0 (root_person_less v y).0 (sym (root_person u x) ∙ sym (component_same g o (left g le k j) (ins j) u v x m) ∙ root_person v y)),
    )

  -- ---- the step back

  module _ (j : ℕ) (root : ℕ → ℕ) (bj : j < N) (ro : Roots g le k (suc j) root) (touched : Set) (dec : (b : ℕ) → Decides (touched b) (Touched g le k j root b)) where
    -- who is left before round j is dropped in it or left after it
    splits : (y : ℕ) → y ∈ L j → (y ∈ own g le k j) ⊎ (y ∈ L (suc j))
    unfolding own
    splits y m = elim (cases_Bool (left g le k (suc j) y)) [ inl h ↦ inr h | inr f ↦ inl (minus_in _ _ y m f) ]

    touched_part : (a : ℕ) → suc j ≤ a → a < N → touched (root a) ≡ true → component g (L j) (K a) ≡ Ci j
    unfolding circle
    touched_part a l b h =
        let (u, y, mu, my, lk, e) = (dec (root a)).0 h in
        let xj : key g le k j ∈ left g le k j = (round_weakest g o le t str k j bj).0 in
        let cu : u ∈ component g (left g le k j) (key g le k j) = own_circle g o le t str k j bj u mu in
        let cy : y ∈ component g (left g le k j) (key g le k j) = component_closed g o (left g le k j) (key g le k j) (ins j (key g le k j) xj) xj u y cu lk (left_falls g o le t str k j y my) in
        let yr : y ∈ circle g le k (root a) = subst (λ S. y ∈ S) (root_person (suc j) root ro y my ∙ ap (circle g le k) e) (component_holds g o (left g le k (suc j)) y (ins (suc j) y my) my) in
        let (lo, hi) = ro.between a l b in
        let ka : key g le k a ∈ component g (left g le k j) (key g le k j) = nest g o le t str k j (root a) (omega arith) (omega arith) y cy yr (key g le k a) (root_holds (suc j) root ro a l b) in
        component_same g o (left g le k j) (ins j) (key g le k j) (key g le k a) xj ka

    free_part : (a : ℕ) → suc j ≤ a → a < N → touched (root a) ≡ false → component g (L j) (K a) ≡ Ci (root a)
    free_part a l b f = same_set _ _ fro to
      where
        S : Set
        S = circle g le k (root a)

        xa : key g le k a ∈ left g le k j
        xa = key_left j a (omega arith) b

        part_left : S ⊆ left g le k (suc j)
        part_left v m = left_mono g o le t str k (suc j) (root a) v (ro.between a l b).0 (circle_left g o le t str k (root a) v m)

        la : root a < rounds g le k
        la = omega (arith, (ro.between a l b).1)

        shut : (x y : ℕ) → x ∈ S → g.linked x y ≡ true → y ∈ left g le k j → y ∈ S
        shut x y m lk z = go (splits y z)
          where
            is : component g (left g le k (suc j)) x ≡ S
            is = component_same g o (left g le k (suc j)) (ins (suc j)) (key g le k a) x (key_left (suc j) a l b) (subst (λ Z. x ∈ Z) (sym (ro.part a l b)) m) ∙ ro.part a l b

            go : (y ∈ own g le k j) ⊎ (y ∈ left g le k (suc j)) → y ∈ S
            go (inl d) = absurd (both_ways _ f ((dec (root a)).1 (y, x, d, part_left x m, o.symmetric x y lk, same_circle (root (round g le k x)) (root a) (root_person_less (suc j) root ro x (part_left x m)).0 la (sym (root_person (suc j) root ro x (part_left x m)) ∙ is))))
            go (inr n) = subst (λ Z. y ∈ Z) is (component_closed g o (left g le k (suc j)) x (ins (suc j) x (part_left x m)) (part_left x m) x y (component_holds g o (left g le k (suc j)) x (ins (suc j) x (part_left x m)) (part_left x m)) lk n)

        fro : component g (left g le k j) (key g le k a) ⊆ S
        fro v m = walk_closed S (λ x y p q r. shut x y p q (component_part g o (left g le k j) (key g le k a) (ins j (key g le k a) xa) xa y r)) (root_holds (suc j) root ro a l b) (component_connected g o (left g le k j) (key g le k a) (ins j (key g le k a) xa) xa (key g le k a) v (component_holds g o (left g le k j) (key g le k a) (ins j (key g le k a) xa) xa) m)

        to : S ⊆ component g (left g le k j) (key g le k a)
        to = component_greatest g o (left g le k j) (key g le k a) (ins j (key g le k a) xa) xa S (λ v m. left_falls g o le t str k j v (part_left v m)) (circle_circle g o le t str k (root a) la).0.connected (root_holds (suc j) root ro a l b)

    step_back : Roots g le k j (rejoined j touched root)
    unfolding rejoined circle
    step_back = record { between = λ a l b. low a l b (cases_eq a j) (cases_Bool (touched (root a))); part = λ a l b. main a l b (cases_eq a j) (cases_Bool (touched (root a))) }
      where
        as_j : (a : ℕ) → (eqb a j || touched (root a)) ≡ true → rejoined j touched root a ≡ j
        as_j a e = ap (λ x. cond x j (root a)) e

        as_root : (a : ℕ) → (a ≡ j → ⊥) → touched (root a) ≡ false → rejoined j touched root a ≡ root a
        as_root a d f = ap (λ x. cond x j (root a)) (or_from _ _ (ne_eqb a j d) f)

        low : (a : ℕ) → j ≤ a → a < rounds g le k → (a ≡ j) ⊎ (a ≡ j → ⊥) → (touched (root a) ≡ true) ⊎ (touched (root a) ≡ false) → (j ≤ rejoined j touched root a) × (rejoined j touched root a ≤ a)
        low a l b (inl e) x = let z = as_j a (or_left _ _ (eq-eqb a j e)) in (omega (arith, z), omega (arith, z))
        low a l b (inr d) (inl h) = let z = as_j a (or_right (eqb a j) _ h) in (omega (arith, z), omega (arith, z))
        low a l b (inr d) (inr f) = let z = as_root a d f in let (p, q) = ro.between a (omega arith) b in (omega (arith, z), omega (arith, z))

        main : (a : ℕ) → j ≤ a → a < rounds g le k → (a ≡ j) ⊎ (a ≡ j → ⊥) → (touched (root a) ≡ true) ⊎ (touched (root a) ≡ false) → component g (left g le k j) (key g le k a) ≡ circle g le k (rejoined j touched root a)
        main a l b (inl e) x = ap (λ z. component g (left g le k j) (key g le k z)) e ∙ sym (ap (circle g le k) (as_j a (or_left _ _ (eq-eqb a j e))))
        main a l b (inr d) (inl h) = touched_part a (omega arith) b h ∙ sym (ap (circle g le k) (as_j a (or_right (eqb a j) _ h)))
        main a l b (inr d) (inr f) = free_part a (omega arith) b f ∙ sym (ap (circle g le k) (as_root a d f))

    step_holder : (b : ℕ) → j < b → b < N → (root b ≡ b → touched b ≡ true → holder g le k b ≡ some j) × (holder g le k b ≡ some j → (root b ≡ b) × (touched b ≡ true))
    unfolding circle
    step_holder b l lb = (there_is, λ e. (rooted e, touches e (cases_Bool (touched b))))
      where
        there_is : root b ≡ b → touched b ≡ true → holder g le k b ≡ some j
        there_is e h = go (holder g le k b) refl
          where
            m : key g le k b ∈ circle g le k j
            m = subst (λ S. key g le k b ∈ S) (touched_part b (omega arith) lb (subst (λ z. touched z ≡ true) (sym e) h)) (component_holds g o (left g le k j) (key g le k b) (ins j (key g le k b) (key_left j b (omega arith) lb)) (key_left j b (omega arith) lb))

            go : (x : Option ℕ) → holder g le k b ≡ x → holder g le k b ≡ some j
            go none q = absurd (holder_is g o le t str k b none q j l m)
            go (some h') q =
                let (p, s, f) = holder_is g o le t str k b (some h') q in
                let low = f j l m in
                let high = root_free (suc j) root ro b (omega arith) lb h' (subst (λ z. holder g le k z ≡ some h') (sym e) q) in
                let same : h' ≡ j = omega arith in
                q ∙ ap some same

        rooted : holder g le k b ≡ some j → root b ≡ b
        rooted e = root_only (suc j) root ro b b (omega arith) lb (omega arith) there (λ h q. let s : some h ≡ some j = sym q ∙ e in one h s)
          where
            one : (h : ℕ) → ◌≡◌ {A = Option ℕ} (some h) (some j) → h < suc j
            one h s = let z : h ≡ j = ap (λ x. elim x [ none ↦ 0 | some y ↦ y ]) s in omega arith

        touches : holder g le k b ≡ some j → (touched b ≡ true) ⊎ (touched b ≡ false) → touched b ≡ true
        touches e (inl h) = h
        touches e (inr f) =
            let s = holder_some g o le t str k b j lb e in
            let xj : key g le k j ∈ left g le k j = (round_weakest g o le t str k j bj).0 in
            let m : key g le k b ∈ component g (left g le k j) (key g le k j) = s.1 (key g le k b) (key_held g o le t str k b lb) in
            let whole : component g (left g le k j) (key g le k b) ≡ circle g le k j = component_same g o (left g le k j) (ins j) (key g le k j) (key g le k b) xj m in
            let small : component g (left g le k j) (key g le k b) ≡ circle g le k (root b) = free_part b (omega arith) lb (subst (λ z. touched z ≡ false) (sym (rooted e)) f) in
            let z : j ≡ b = same_circle j b bj lb (sym whole ∙ small ∙ ap (circle g le k) (rooted e)) in
            absurd (omega arith)

pub roots_end_holders : RootsEndHolders
roots_end_holders g o le t str k j root ro = (
  (λ a l b. (let m = root_holds g o le t str k j root ro a l b in reach_key g o le t str k a a (omega arith) b (root a) m, root_free g o le t str k j root ro a l b)),
  root_only g o le t str k j root ro,
  root_person g o le t str k j root ro,
  root_walk g o le t str k j root ro,
)

pub joining_steps_back : JoiningStepsBack
joining_steps_back g o le t str k = (
  (λ root. record { between = λ a l b. absurd (omega arith); part = λ a l b. absurd (omega arith) }),
  (λ j root b ro touched dec. (step_back g o le t str k j root b ro touched dec, step_holder g o le t str k j root b ro touched dec)),
)
