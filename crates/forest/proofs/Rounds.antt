-- The rounds by number: keys, dropped persons and circles.
use Rattle.std.proofs.Common.{◌≡◌, ℕ, zero, suc, ◌+◌, ◌<◌, ◌≤◌, Bool, true, false, ◌⊎◌, sym, refl, ap, ◌∙◌, subst, inl, inr, arith}
use mathlib.Core.Option.{none, Option, some}
use Rattle.std.proofs.lemmas.Bool.{both_ways, cases_eq}
use Rattle.theory.specs.Circles.{Circle}
use Rattle.theory.specs.Cores.{above, circle_at, component, core, everyone}
use Rattle.theory.specs.Graphs.{Graph, Inside, Lawful, Tight}
use Rattle.theory.specs.Orders.{Below, Order, Strict, Weakest, weakest}
use Rattle.theory.specs.Peeling.{dropped}
use Rattle.theory.specs.Sets.{any, count, minus, Relation, Set, without, ◌∈◌, ◌⊆◌}
use Rattle.theory.proofs.Circles.{at_weakest, circle_known, circle_made}
use Rattle.theory.proofs.Components.{component_of}
use Rattle.theory.proofs.Cores.{core_greatest, core_part, core_same, core_tight, core_within, everyone_in}
use Rattle.theory.proofs.Counting.{any_tells, count_front, count_le, falling, same_or_less, without_less}
use Rattle.theory.proofs.Dropped.{round_stays_in_component}
use Rattle.theory.proofs.Orders.{weakest_is, WeakestIs}
use Rattle.theory.proofs.Peeling.{beyond, beyond_upward, rest_same, Upward}
use Rattle.theory.proofs.Sets.{false_since, minus_from, minus_in, without_from, without_in}
use Rattle.forest.specs.RoundLaws.{RoundsMeetCirclesOnce}
use Rattle.forest.specs.Rounds.{circle, key, left, next, own, round, rounds}

-- the core of an upward set
record Rest (g : Graph) (le : Relation) (k : ℕ) (R : Set) : Type 0 where
  from : Set
  upward : Upward le from
  is : R ≡ core g k from

module _ (g : Graph) (o : Lawful g) (le : Relation) (t : Order le) (str : Strict le) (k : ℕ) where
  -- ---- one round

  pub weakest_found : (R : Set) → Inside g R → (w : ℕ) → Weakest le R w → weakest le R g.size ≡ some w
  weakest_found R ins w we = go (weakest le R g.size) (weakest_is le t R g.size)
    where
      go : (x : Option ℕ) → WeakestIs le R g.size x → x ≡ some w
      go none f = absurd (f w (ins w we.0) we.0)
      go (some x) (i, n, f) = ap some (str x w (f w (ins w we.0) we.0) (we.1 x n))

  next_is : (R : Set) → Inside g R → (w : ℕ) → Weakest le R w → next g le k R ≡ core g k (without R w)
  unfolding next
  next_is R ins w we = ap (λ x. elim x [ none ↦ R | some w ↦ core g k (without R w) ]) (weakest_found R ins w we)

  next_rest_core : (B : Set) → Upward le B → Rest g le k (next g le k (core g k B))
  unfolding next
  next_rest_core B upw = go (weakest le (core g k B) g.size) (weakest_is le t (core g k B) g.size)
    where
      go : (x : Option ℕ) → WeakestIs le (core g k B) g.size x → Rest g le k (elim x [ none ↦ core g k B | some w ↦ core g k (without (core g k B) w) ])
      go none f = record { from = B; upward = upw; is = refl }
      go (some w) (i, n, f) = record { from = beyond le w; upward = beyond_upward le t w; is = rest_same g o le t str k B upw w (n, λ v s. f v (core_within g k B v s) s) }

  next_rest : (R : Set) → Rest g le k R → Rest g le k (next g le k R)
  next_rest R r = rw r.is (next_rest_core r.from r.upward)

  rest_above : (R : Set) → Rest g le k R → (w : ℕ) → Weakest le R w → R ≡ core g k (above le w)
  unfolding Upward
  rest_above R r w we =
      let we' : Weakest le (core g k r.from) w = rw r.is at we in
      r.is ∙ core_same g k r.from (above le w) we'.1 (λ v m. r.upward w v (core_part g k r.from w we'.0) (core_part g k (above le w) v m))

  -- ---- who is left

  left_rest : (i : ℕ) → Rest g le k (left g le k i)
  unfolding left Upward
  left_rest zero = record { from = λ _. true; upward = λ _ _ _ _. refl; is = core_same g k (everyone g) (λ _. true) (λ _ _. refl) (λ v m. everyone_in g v (core_within g k (λ _. true) v m)) }
  left_rest (suc i) = next_rest (left g le k i) (left_rest i)

  pub left_within : (i : ℕ) → Inside g (left g le k i)
  left_within i = let r = left_rest i in rw r.is (core_within g k r.from)

  pub left_tight : (i : ℕ) → Tight g k (left g le k i)
  left_tight i = let r = left_rest i in rw r.is (core_tight g k r.from)

  pub key_weakest : (i u : ℕ) → u ∈ left g le k i → Weakest le (left g le k i) (key g le k i)
  unfolding key
  key_weakest i u m = go (weakest le (left g le k i) g.size) (weakest_is le t (left g le k i) g.size)
    where
      go : (x : Option ℕ) → WeakestIs le (left g le k i) g.size x → Weakest le (left g le k i) (elim x [ none ↦ 0 | some w ↦ w ])
      go none f = absurd (f u (left_within i u m) m)
      go (some w) (l, n, f) = (n, λ v s. f v (left_within i v s) s)

  pub left_next : (i u : ℕ) → u ∈ left g le k i → left g le k (suc i) ≡ core g k (without (left g le k i) (key g le k i))
  unfolding left
  left_next i u m = next_is (left g le k i) (left_within i) (key g le k i) (key_weakest i u m)

  next_falls : (R : Set) → next g le k R ⊆ R
  unfolding next
  next_falls R v = go (weakest le R g.size)
    where
      go : (x : Option ℕ) → v ∈ elim x [ none ↦ R | some w ↦ core g k (without R w) ] → v ∈ R
      go none m = m
      go (some w) m = (without_from R w v (core_part g k (without R w) v m)).0

  pub left_falls : (i : ℕ) → left g le k (suc i) ⊆ left g le k i
  unfolding left
  left_falls i = next_falls (left g le k i)

  pub left_mono : (i j u : ℕ) → i ≤ j → u ∈ left g le k j → u ∈ left g le k i
  left_mono i j u l m = falling (λ i. left g le k i u) (λ i. left_falls i u) j i l m

  pub left_first : (i u : ℕ) → u ∈ left g le k i → u ∈ core g k (everyone g)
  unfolding left
  left_first i u m = left_mono 0 i u (omega arith) m

  -- the key goes
  pub key_goes : (i u : ℕ) → u ∈ left g le k i → left g le k (suc i) (key g le k i) ≡ false
  key_goes i u m = false_since _ (λ n. (without_from (left g le k i) (key g le k i) (key g le k i) (core_part g k _ (key g le k i) (rw (left_next i u m) at n))).1 refl)

  left_size : (i u : ℕ) → u ∈ left g le k i → i + count (left g le k i) g.size ≤ g.size
  left_size zero u m = omega (arith, count_le (left g le k 0) g.size)
  left_size (suc i) u m = omega (arith, left_size i u (left_falls i u m), go (same_or_less (left g le k (suc i)) (left g le k i) g.size (λ v _. left_falls i v)))
    where
      go : ((v : ℕ) → v < g.size → v ∈ left g le k i → v ∈ left g le k (suc i)) ⊎ (count (left g le k (suc i)) g.size < count (left g le k i) g.size) → count (left g le k (suc i)) g.size < count (left g le k i) g.size
      go (inl f) =
          let we = key_weakest i u (left_falls i u m) in
          absurd (both_ways _ (key_goes i u (left_falls i u m)) (f (key g le k i) (left_within i (key g le k i) we.0) we.0))
      go (inr c) = c

  left_few : (i u : ℕ) → u ∈ left g le k i → i < g.size
  left_few i u m = omega (arith, left_size i u m, without_less (left g le k i) u g.size (left_within i u m) m)

  -- ---- how many rounds

  some_left : ℕ → Bool
  some_left i = any (left g le k i) g.size

  left_some : (i u : ℕ) → u ∈ left g le k i → i ∈ some_left
  unfolding some_left
  left_some i u m = (any_tells (left g le k i) g.size).1 (u, left_within i u m, m)

  some_falls : (i : ℕ) → suc i ∈ some_left → i ∈ some_left
  unfolding some_left
  some_falls i m = let (v, l, n) = (any_tells (left g le k (suc i)) g.size).0 m in left_some i v (left_falls i v n)

  pub in_rounds : (i u : ℕ) → u ∈ left g le k i → i < rounds g le k
  unfolding rounds some_left
  in_rounds i u m = (count_front some_left some_falls g.size i).0 (left_few i u m) (left_some i u m)

  pub rounds_in : (i : ℕ) → i < rounds g le k → (u : ℕ) × (u ∈ left g le k i)
  unfolding rounds some_left
  rounds_in i l = let (v, b, n) = (any_tells (left g le k i) g.size).0 ((count_front some_left some_falls g.size i).1 l) in (v, n)

  pub round_weakest : (i : ℕ) → i < rounds g le k → Weakest le (left g le k i) (key g le k i)
  round_weakest i l = let (u, m) = rounds_in i l in key_weakest i u m

  -- ---- the round of a person

  pub round_tells : (u : ℕ) → u ∈ core g k (everyone g) → (i : ℕ) → (u ∈ left g le k i → i ≤ round g le k u) × (i ≤ round g le k u → u ∈ left g le k i)
  unfolding round left
  round_tells u m zero = ((λ _. omega arith), (λ _. m))
  round_tells u m (suc c) =
      let front = count_front (λ i. left g le k (suc i) u) (λ i. left_falls (suc i) u) g.size c in
      let few : suc c ∈ (λ i. left g le k i u) → suc c < g.size = λ n. left_few (suc c) u n in
      ((λ n. front.0 (omega (arith, few n)) n), (λ h. front.1 h))

  pub round_own : (u : ℕ) → u ∈ core g k (everyone g) → u ∈ own g le k (round g le k u)
  unfolding own
  round_own u m = minus_in _ _ u ((round_tells u m (round g le k u)).1 (omega arith)) (false_since _ (λ n. omega (arith, (round_tells u m (suc (round g le k u))).0 n)))

  pub own_left : (i u : ℕ) → u ∈ own g le k i → u ∈ left g le k i
  unfolding own
  own_left i u m = (minus_from _ _ u m).0

  pub own_round : (i u : ℕ) → u ∈ own g le k i → round g le k u ≡ i
  unfolding own
  own_round i u m =
      let (a, f) = minus_from _ _ u m in
      let c = left_first i u a in
      let low = (round_tells u c i).0 a in
      let high : (suc i ≤ round g le k u) → ⊥ = λ h. both_ways _ f ((round_tells u c (suc i)).1 h) in
      omega (arith, low, high)

  pub key_round : (i : ℕ) → i < rounds g le k → key g le k i ∈ own g le k i
  unfolding own
  key_round i l = let we = round_weakest i l in minus_in _ _ (key g le k i) we.0 (key_goes i (key g le k i) we.0)

  pub own_dropped : (i u : ℕ) → u ∈ left g le k i → own g le k i ≡ dropped g k (left g le k i) (key g le k i)
  unfolding own dropped
  own_dropped i u m = ap (minus (left g le k i)) (left_next i u m)

  pub own_circle : (i : ℕ) → i < rounds g le k → own g le k i ⊆ circle g le k i
  unfolding circle
  own_circle i l =
      let (u, m) = rounds_in i l in
      let e = own_dropped i u m in
      rw e (round_stays_in_component g o k (left g le k i) (key g le k i) (left_within i) (left_tight i) (key_weakest i u m).0).1

  pub circle_left : (i : ℕ) → circle g le k i ⊆ left g le k i
  unfolding circle
  circle_left i = component_of g (left g le k i) (key g le k i)

  -- ---- circles

  pub left_above : (i : ℕ) → i < rounds g le k → left g le k i ≡ core g k (above le (key g le k i))
  left_above i l = rest_above (left g le k i) (left_rest i) (key g le k i) (round_weakest i l)

  pub key_in : (i : ℕ) → i < rounds g le k → key g le k i ∈ core g k (above le (key g le k i))
  key_in i l = subst (λ R. key g le k i ∈ R) (left_above i l) (round_weakest i l).0

  pub circle_at_lem : (i : ℕ) → i < rounds g le k → circle g le k i ≡ circle_at g le k (key g le k i)
  unfolding circle circle_at
  circle_at_lem i l = ap (λ R. component g R (key g le k i)) (left_above i l)

  pub circle_circle : (i : ℕ) → i < rounds g le k → Circle g le k (circle g le k i) × Weakest le (circle g le k i) (key g le k i)
  circle_circle i l = rw (circle_at_lem i l) (circle_made g o le t str k (key g le k i) (key_in i l), at_weakest g o le t k (key g le k i) (key_in i l))

  pub keys_rise : (i j : ℕ) → i < j → j < rounds g le k → Below le (key g le k i) (key g le k j)
  keys_rise i j l b =
      let m : key g le k j ∈ left g le k (suc i) = left_mono (suc i) j (key g le k j) (omega arith) (round_weakest j b).0 in
      let n : key g le k j ∈ left g le k i = left_falls i (key g le k j) m in
      let h : le (key g le k i) (key g le k j) ≡ true = (key_weakest i (key g le k j) n).1 (key g le k j) n in
      (h, false_since _ (λ h'. both_ways _ (key_goes i (key g le k j) n) (subst (λ x. x ∈ left g le k (suc i)) (str (key g le k j) (key g le k i) h' h) m)))

  -- a circle's weakest is the key of its round
  pub circle_key : (S : Set) (w : ℕ) → Circle g le k S → Weakest le S w → (w ∈ core g k (everyone g)) × (key g le k (round g le k w) ≡ w)
  circle_key S w c we = (m, go (cases_eq (key g le k i) w))
    where
      m : w ∈ core g k (everyone g)
      m = core_greatest g k (everyone g) S c.inside (λ v s. everyone_in g v (c.inside v s)) c.tight w we.0

      i : ℕ
      i = round g le k w

      a : w ∈ left g le k i
      a = own_left i w (round_own w m)

      wx : Weakest le (left g le k i) (key g le k i)
      wx = key_weakest i w a

      sub : S ⊆ left g le k i
      sub = rw (left_above i (in_rounds i w a)) (core_greatest g k (above le (key g le k i)) S c.inside (λ v s. t.chain (key g le k i) w v (wx.1 w a) (we.1 v s)) c.tight)

      go : (key g le k i ≡ w) ⊎ (key g le k i ≡ w → ⊥) → key g le k i ≡ w
      go (inl e) = e
      go (inr d) =
          let stay : w ∈ core g k (without (left g le k i) (key g le k i)) = core_greatest g k (without (left g le k i) (key g le k i)) S c.inside (λ v s. without_in (left g le k i) (key g le k i) v (sub v s) (λ e. d (str (key g le k i) w (wx.1 w a) (subst (λ x. le w x ≡ true) e (we.1 v s))))) c.tight w we.0 in
          let stay' : w ∈ left g le k (suc i) = rw (left_next i w a) stay in
          let late = (round_tells w m (suc i)).0 stay' in
          absurd (omega (arith, late))

  pub circle_complete : (S : Set) (w : ℕ) → Circle g le k S → Weakest le S w → (i : ℕ) × (i < rounds g le k) × (key g le k i ≡ w) × (circle g le k i ≡ S)
  circle_complete S w c we =
      let (m, e) = circle_key S w c we in
      let i : ℕ = round g le k w in
      let l : i < rounds g le k = in_rounds i w (own_left i w (round_own w m)) in
      (i, l, e, circle_at_lem i l ∙ ap (circle_at g le k) e ∙ sym (circle_known g o le t str k S w c we).1)

pub rounds_meet_circles_once : RoundsMeetCirclesOnce
unfolding rounds
rounds_meet_circles_once g o le t str k =
    record {
      keyed = λ i l. (round_weakest g o le t str k i l, key_round g o le t str k i l, own_circle g o le t str k i l);
      circled = circle_circle g o le t str k;
      goes_on = λ i l. let (u, m) = rounds_in g o le t str k i l in (left_next g o le t str k i u m, own_dropped g o le t str k i u m);
      rising = keys_rise g o le t str k;
      complete = circle_complete g o le t str k;
      once = λ u m. (in_rounds g o le t str k (round g le k u) u (own_left g o le t str k (round g le k u) u (round_own g o le t str k u m)), round_own g o le t str k u m, λ i n. own_round g o le t str k i u n);
      stays = round_tells g o le t str k;
      ended = λ i u m. (in_rounds g o le t str k i u m, left_first g o le t str k i u m);
      few = count_le _ g.size;
    }

-- who is dropped in a round is who its circle alone would drop
pub own_of_circle : (g : Graph) → Lawful g → (le : Relation) → Order le → Strict le → (k i : ℕ) → i < rounds g le k → own g le k i ≡ dropped g k (circle g le k i) (key g le k i)
unfolding circle
own_of_circle g o le t str k i l =
    let w = (round_weakest g o le t str k i l).0 in
    own_dropped g o le t str k i (key g le k i) w ∙ (round_stays_in_component g o k (left g le k i) (key g le k i) (left_within g o le t str k i) (left_tight g o le t str k i) w).2
