-- Holders: the last earlier round with the key, and what is reached by following them.
use Rattle.std.proofs.Common.{◌≡◌, ℕ, zero, suc, ◌<◌, ◌≤◌, Bool, true, false, cond, ◌⊎◌, Decides, sym, refl, ap, subst, inl, inr, arith}
use mathlib.Core.Option.{none, Option, some}
use Rattle.std.proofs.lemmas.Bool.{both_ways, cases_eq, eq-eqb, eqb-true}
use Rattle.theory.specs.Circles.{Circle}
use Rattle.theory.specs.Cores.{circle_at, core, everyone}
use Rattle.theory.specs.Graphs.{Graph, Lawful}
use Rattle.theory.specs.Orders.{Order, Strict}
use Rattle.theory.specs.Sets.{Relation, Set, ◌∈◌, ◌⊆◌}
use Rattle.theory.proofs.Circles.{at_takes, circle_weakest, group_of}
use Rattle.theory.proofs.Counting.{one_more}
use Rattle.forest.specs.HolderLaws.{HoldersAreSmallest}
use Rattle.forest.specs.Holders.{holder, is, last_below, Reaches, there, up}
use Rattle.forest.specs.Rounds.{circle, key, own, round, rounds}
use Rattle.forest.proofs.Rounds.{circle_at_lem, circle_circle, circle_complete, circle_left, in_rounds, key_in, key_round, left_first, left_mono, own_circle, own_left, own_round, round_own, round_tells, round_weakest}

-- what the last below n is
abbrev pub LastIs : Set → ℕ → Option ℕ → Type 0
LastIs p n none = (j : ℕ) → j < n → j ∈ p → ⊥
LastIs p n (some j) = (j < n) × (j ∈ p) × ((h : ℕ) → h < n → h ∈ p → h ≤ j)

pub last_is : (p : Set) (n : ℕ) → LastIs p n (last_below p n)
unfolding last_below
last_is p zero = λ j l. absurd (omega arith)
last_is p (suc n) = go (p n) refl (last_below p n) (last_is p n)
  where
    go : (b : Bool) → p n ≡ b → (x : Option ℕ) → LastIs p n x → LastIs p (suc n) (cond b (some n) x)
    go true e x h = (omega arith, e, λ h l m. omega arith)
    go false e none f = one_more (λ j. j ∈ p → ⊥) n f (both_ways (p n) e)
    go false e (some j) (l, m, f) = (omega arith, m, one_more (λ h. h ∈ p → h ≤ j) n f (λ n'. absurd (both_ways (p n) e n')))

pub is_tells : (j : ℕ) (h : Option ℕ) → Decides (is j h) (h ≡ some j)
is_tells j none = ((λ q. absurd (both_ways false refl q)), (λ e. subst (λ x. is j x ≡ true) (sym e) (eq-eqb j j refl)))
is_tells j (some a) = ((λ q. ap some (eqb-true a j q)), (λ e. subst (λ x. is j x ≡ true) (sym e) (eq-eqb j j refl)))

module _ (g : Graph) (o : Lawful g) (le : Relation) (t : Order le) (str : Strict le) (k : ℕ) where
  pub holder_is : (i : ℕ) (x : Option ℕ) → holder g le k i ≡ x → LastIs (λ j. circle g le k j (key g le k i)) i x
  unfolding holder
  holder_is i x e = subst (LastIs (λ j. circle g le k j (key g le k i)) i) e (last_is (λ j. circle g le k j (key g le k i)) i)

  pub circle_round : (i v : ℕ) → v ∈ circle g le k i → (v ∈ core g k (everyone g)) × (i < rounds g le k) × (i ≤ round g le k v)
  circle_round i v m =
      let n = circle_left g o le t str k i v m in
      let c = left_first g o le t str k i v n in
      (c, in_rounds g o le t str k i v n, (round_tells g o le t str k v c i).0 n)

  pub key_held : (i : ℕ) → i < rounds g le k → key g le k i ∈ circle g le k i
  key_held i l = (circle_circle g o le t str k i l).1.0

  pub key_of_round : (i : ℕ) → i < rounds g le k → round g le k (key g le k i) ≡ i
  key_of_round i l = own_round g o le t str k i (key g le k i) (key_round g o le t str k i l)

  pub round_less : (v : ℕ) → v ∈ core g k (everyone g) → round g le k v < rounds g le k
  round_less v m = in_rounds g o le t str k (round g le k v) v (own_left g o le t str k (round g le k v) v (round_own g o le t str k v m))

  pub held_by_round : (v : ℕ) → v ∈ core g k (everyone g) → v ∈ circle g le k (round g le k v)
  held_by_round v m = own_circle g o le t str k (round g le k v) (round_less v m) v (round_own g o le t str k v m)

  -- of two circles that meet the later lies in the earlier
  pub nest : (i j : ℕ) → i ≤ j → j < rounds g le k → (v : ℕ) → v ∈ circle g le k i → v ∈ circle g le k j → circle g le k j ⊆ circle g le k i
  nest i j l b v m n =
      let li : i < rounds g le k = omega arith in
      let e : circle g le k i ≡ circle_at g le k (key g le k i) = circle_at_lem g o le t str k i li in
      let weak : (u : ℕ) → u ∈ circle g le k j → le (key g le k i) u ≡ true = λ u s. (round_weakest g o le t str k i li).1 u (left_mono g o le t str k i j u l (circle_left g o le t str k j u s)) in
      rw e (at_takes g o le t k (key g le k i) (key_in g o le t str k i li) (circle g le k j) (group_of (circle_circle g o le t str k j b).0) weak v n (rw e at m))

  pub nest_key : (i j : ℕ) → j < rounds g le k → key g le k j ∈ circle g le k i → (i ≤ j) × (circle g le k j ⊆ circle g le k i)
  nest_key i j b m =
      let l : i ≤ j = subst (λ r. i ≤ r) (key_of_round j b) (circle_round i (key g le k j) m).2 in
      (l, nest i j l b (key g le k j) m (key_held j b))

  -- ---- following holders

  pub holder_some : (i j : ℕ) → i < rounds g le k → holder g le k i ≡ some j → (j < i) × (circle g le k i ⊆ circle g le k j) × ((h : ℕ) → h < i → key g le k i ∈ circle g le k h → h ≤ j)
  holder_some i j l e = let (a, m, f) = holder_is i (some j) e in (a, (nest_key j i l m).1, f)

  pub reach_key : (n j : ℕ) → j ≤ n → j < rounds g le k → (i : ℕ) → key g le k j ∈ circle g le k i → Reaches g le k j i
  reach_key zero j l b i m = let e : j ≡ i = omega (arith, (nest_key i j b m).0) in subst (Reaches g le k j) e there
  reach_key (suc n) j l b i m = go (cases_eq j i) (holder g le k j) refl (reach_key n)
    where
      go : (j ≡ i) ⊎ (j ≡ i → ⊥) → (x : Option ℕ) → holder g le k j ≡ x → ((j : ℕ) → j ≤ n → j < rounds g le k → (i : ℕ) → key g le k j ∈ circle g le k i → Reaches g le k j i) → Reaches g le k j i
      go (inl e) x h ih = subst (Reaches g le k j) e there
      go (inr d) none h ih = absurd (holder_is j none h i (omega (arith, (nest_key i j b m).0)) m)
      go (inr d) (some a) h ih =
          let (s, hk, f) = holder_is j (some a) h in
          let less : i ≤ a = f i (omega (arith, (nest_key i j b m).0)) m in
          let la : a < rounds g le k = omega arith in
          up h (ih a (omega arith) la i (nest i a less la (key g le k j) m hk (key g le k a) (key_held a la)))

  pub reach_sub : {a c : ℕ} → a < rounds g le k → Reaches g le k a c → (c ≤ a) × (circle g le k a ⊆ circle g le k c)
  reach_sub l there = (omega arith, λ v m. m)
  reach_sub l (up {a} {b} {c} e r) =
      let h = holder_some a b l e in
      let ih = reach_sub (omega (arith, h.0)) r in
      (omega (arith, h.0, ih.0), λ v m. ih.1 v (h.1 v m))

  pub reach_last : {a c : ℕ} → Reaches g le k a c → (a ≡ c) ⊎ ((i : ℕ) × (holder g le k i ≡ some c) × Reaches g le k a i)
  reach_last there = inl refl
  reach_last (up {a} {b} {c} e r) = go (reach_last r)
    where
      go : (b ≡ c) ⊎ ((i : ℕ) × (holder g le k i ≡ some c) × Reaches g le k b i) → (a ≡ c) ⊎ ((i : ℕ) × (holder g le k i ≡ some c) × Reaches g le k a i)
      go (inl s) = inr (a, subst (λ x. holder g le k a ≡ some x) s e, there)
      go (inr (i, h, q)) = inr (i, h, up e q)

  pub reaching : (i v : ℕ) → v ∈ circle g le k i → Reaches g le k (round g le k v) i
  reaching i v m =
      let (c, l, a) = circle_round i v m in
      let j : ℕ = round g le k v in
      let b : j < rounds g le k = round_less v c in
      reach_key j j (omega arith) b i (nest i j a b v m (held_by_round v c) (key g le k j) (key_held j b))

  pub reached : (i v : ℕ) → v ∈ core g k (everyone g) → Reaches g le k (round g le k v) i → v ∈ circle g le k i
  reached i v m r = (reach_sub (round_less v m) r).1 v (held_by_round v m)

  pub parts : (j v : ℕ) → v ∈ circle g le k j → (v ∈ own g le k j) ⊎ ((i : ℕ) × (i < rounds g le k) × (holder g le k i ≡ some j) × (v ∈ circle g le k i))
  parts j v m = go (reach_last (reaching j v m))
    where
      c : v ∈ core g k (everyone g)
      c = (circle_round j v m).0

      go : (round g le k v ≡ j) ⊎ ((i : ℕ) × (holder g le k i ≡ some j) × Reaches g le k (round g le k v) i) → (v ∈ own g le k j) ⊎ ((i : ℕ) × (i < rounds g le k) × (holder g le k i ≡ some j) × (v ∈ circle g le k i))
      go (inl e) = inl (subst (λ x. v ∈ own g le k x) e (round_own g o le t str k v c))
      go (inr (i, h, r)) = inr (i, omega (arith, (reach_sub (round_less v c) r).0, round_less v c), h, reached i v c r)

  -- ---- the smallest other circle

  -- another circle that holds circle i is an earlier one with key i
  pub larger : (i : ℕ) → i < rounds g le k → (S : Set) → Circle g le k S → circle g le k i ⊆ S → (S ⊆ circle g le k i) ⊎ ((h : ℕ) × (h < i) × (key g le k i ∈ circle g le k h) × (circle g le k h ≡ S))
  larger i l S c p =
      let (w, we) = circle_weakest g o le t k S (group_of c) in
      let (h, b, e, s) = circle_complete g o le t str k S w c we in
      let m : key g le k i ∈ circle g le k h = subst (λ X. key g le k i ∈ X) (sym s) (p (key g le k i) (key_held i l)) in
      elim (cases_eq h i) [
        | inl q ↦ inl (λ v n. subst (λ x. v ∈ circle g le k x) q (subst (λ X. v ∈ X) (sym s) n))
        | inr d ↦ inr (h, omega (arith, (nest_key h i l m).0), m, s)
      ]

pub holders_are_smallest : HoldersAreSmallest
holders_are_smallest g o le t str k =
    record {
      latest = λ i j e. holder_is g o le t str k i (some j) e;
      free = λ i e. holder_is g o le t str k i none e;
      smallest = small;
      outermost = λ i l e S c p. elim (larger g o le t str k i l S c p) [ inl q ↦ q | inr x ↦ absurd (holder_is g o le t str k i none e x.0 x.1 x.2) ];
      parts = parts g o le t str k;
      made = λ j v x. elim x [
        | inl m ↦ own_circle g o le t str k j (in_rounds g o le t str k j v (own_left g o le t str k j v m)) v m
        | inr y ↦ let (i, l, e, m) = y in (holder_some g o le t str k i j l e).1 v m
      ];
      reaching = reaching g o le t str k;
      reached = λ i v m r. reached g o le t str k i v m r;
    }
  where
    small : (i j : ℕ) → i < rounds g le k → holder g le k i ≡ some j → (j < i) × (circle g le k i ⊆ circle g le k j) × ((circle g le k j ⊆ circle g le k i) → ⊥) × ((S : Set) → Circle g le k S → circle g le k i ⊆ S → (S ⊆ circle g le k i) ⊎ (circle g le k j ⊆ S))
    small i j l e =
        let (a, m, f) = holder_is g o le t str k i (some j) e in
        let lj : j < rounds g le k = omega arith in (
          a,
          (nest_key g o le t str k j i l m).1,
          (λ p. let h = nest_key g o le t str k i j lj (p (key g le k j) (key_held g o le t str k j lj)) in omega (arith, h.0)),
          λ S c p. elim (larger g o le t str k i l S c p) [
            | inl q ↦ inl q
            | inr x ↦ let (h, b, n, s) = x in inr (λ v u. subst (λ X. v ∈ X) s (nest g o le t str k h j (f h b n) lj (key g le k i) n m v u))
          ],
        )
