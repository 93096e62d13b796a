-- Rounds by steps, peeling by rounds, and three tests of innermost.
use Rattle.std.proofs.Common.{◌≡◌, ℕ, zero, suc, ◌+◌, ◌≤◌, List, [], ◌∷◌, map, sym, refl, ap, ◌∙◌, inl, inr, arith}
use mathlib.Core.Option.{none, Option, some}
use Rattle.std.specs.List.{range_with_len}
use Rattle.std.proofs.lemmas.Bool.{cases_lt}
use Rattle.theory.specs.Circles.{Circle, Innermost}
use Rattle.theory.specs.Cores.{component, core}
use Rattle.theory.specs.Graphs.{Graph, Lawful}
use Rattle.theory.specs.Orders.{Order, Strict, Weakest, weakest}
use Rattle.theory.specs.Peeling.{dropped, peel}
use Rattle.theory.specs.Sets.{Relation, Set, without, ◌∈◌}
use Rattle.theory.proofs.Counting.{same_or_less}
use Rattle.theory.proofs.Orders.{weakest_is, WeakestIs}
use Rattle.theory.proofs.Own.{innermost_drops_all}
use Rattle.theory.proofs.Sets.{same_set}
use Rattle.forest.specs.RoundLaws.{InnermostByRounds, PeelingIsRounds, RoundsBySteps}
use Rattle.forest.specs.Rounds.{circle, key, left, own, rounds}
use Rattle.forest.proofs.Climbing.{inner_tells}
use Rattle.forest.proofs.Rounds.{circle_circle, circle_left, in_rounds, key_weakest, left_next, left_within, own_circle, own_dropped, own_of_circle, round_weakest, rounds_in, rounds_meet_circles_once, weakest_found}

pub rounds_by_steps : RoundsBySteps
unfolding circle
rounds_by_steps g o le t str k i = (
  (λ w we.
      let e : key g le k i ≡ w = str (key g le k i) w ((key_weakest g o le t str k i w we.0).1 w we.0) (we.1 (key g le k i) (key_weakest g o le t str k i w we.0).0) in
      (in_rounds g o le t str k i w we.0, e, ap (component g (left g le k i)) e, left_next g o le t str k i w we.0 ∙ ap (λ z. core g k (without (left g le k i) z)) e, own_dropped g o le t str k i w we.0 ∙ ap (dropped g k (left g le k i)) e)),
  (λ f. elim (cases_lt i (rounds g le k)) [ inl l ↦ absurd (let (u, m) = rounds_in g o le t str k i l in f u m) | inr l ↦ l ]),
)

module _ (g : Graph) (o : Lawful g) (le : Relation) (t : Order le) (str : Strict le) (k : ℕ) where
  peel_some : (R : Set) (m w : ℕ) → weakest le R g.size ≡ some w → peel g le k (suc m) R ≡ (w, component g R w) ∷ peel g le k m (core g k (without R w))
  unfolding peel
  peel_some R m w e = ap (λ x. elim x [ none ↦ [] | some w ↦ (w, component g R w) ∷ peel g le k m (core g k (without R w)) ]) e

  peel_none : (R : Set) (m : ℕ) → ((u : ℕ) → u ∈ R → ⊥) → peel g le k m R ≡ []
  unfolding peel
  peel_none R zero f = refl
  peel_none R (suc m) f = go (weakest le R g.size) (weakest_is le t R g.size)
    where
      go : (x : Option ℕ) → WeakestIs le R g.size x → ◌≡◌ {A = List (ℕ × Set)} (elim x [ none ↦ [] | some w ↦ (w, component g R w) ∷ peel g le k m (core g k (without R w)) ]) []
      go none h = refl
      go (some w) (l, n, h) = absurd (f w n)

  f : ℕ → ℕ × Set
  f i = (key g le k i, circle g le k i)

  peel_placed : (n m i : ℕ) → i + n ≡ rounds g le k → n ≤ m → peel g le k m (left g le k i) ≡ map f (range_with_len i n)
  unfolding f circle
  peel_placed zero m i e l = peel_none (left g le k i) m (λ u x. omega (arith, in_rounds g o le t str k i u x))
  peel_placed (suc n) zero i e l = absurd (omega arith)
  peel_placed (suc n) (suc m) i e l =
      let we = round_weakest g o le t str k i (omega arith) in
      let next_place : suc i ≡ i + 1 = omega arith in
      let one = peel_some (left g le k i) m (key g le k i) (weakest_found g o le t str k (left g le k i) (left_within g o le t str k i) (key g le k i) we) in
      let two : peel g le k m (core g k (without (left g le k i) (key g le k i))) ≡ map (λ i. (key g le k i, component g (left g le k i) (key g le k i))) (range_with_len (i + 1) n) = ap (peel g le k m) (sym (left_next g o le t str k i (key g le k i) we.0)) ∙ peel_placed n m (suc i) (omega arith) (omega arith) ∙ ap (λ z. map (λ i. (key g le k i, component g (left g le k i) (key g le k i))) (range_with_len z n)) next_place in
      one ∙ ap (λ xs. (key g le k i, component g (left g le k i) (key g le k i)) ∷ xs) two

pub peeling_is_rounds : PeelingIsRounds
unfolding left f
peeling_is_rounds g o le t str k = peel_placed g o le t str k (rounds g le k) g.size 0 (omega arith) (rounds_meet_circles_once g o le t str k).few

pub innermost_by_rounds : InnermostByRounds
unfolding circle
innermost_by_rounds g o le t str k i l = (
  (λ inner. (same ∙ (innermost_drops_all g o le t str k C (key g le k i) c.0 c.1).0 inner, (inner_tells g o le t str k i l).0 inner)),
  whole,
  (λ e. whole (same_set (own g le k i) C (own_circle g o le t str k i l) (λ v m. elim (same_or_less (own g le k i) C g.size (λ v _. own_circle g o le t str k i l v)) [ inl f ↦ f v (left_within g o le t str k i v (circle_left g o le t str k i v m)) m | inr b ↦ absurd (omega arith) ]))),
  (inner_tells g o le t str k i l).1,
)
  where
    C : Set
    C = component g (left g le k i) (key g le k i)

    c : Circle g le k C × Weakest le C (key g le k i)
    c = circle_circle g o le t str k i l

    same : own g le k i ≡ dropped g k C (key g le k i)
    same = own_of_circle g o le t str k i l

    whole : own g le k i ≡ C → Innermost (Circle g le k) C
    whole e = (innermost_drops_all g o le t str k C (key g le k i) c.0 c.1).1 (sym same ∙ e)
