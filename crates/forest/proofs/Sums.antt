-- Sums over the circles that a circle is the holder of.
use Rattle.std.proofs.Common.{◌≡◌, ℕ, zero, suc, ◌+◌, ◌<◌, ◌≤◌, Bool, true, false, cond, ◌&&◌, leb, ◌⊎◌, sym, refl, ap, ◌∙◌, subst, inl, inr, arith}
use mathlib.Core.Option.{some}
use Rattle.std.proofs.lemmas.Bool.{and_from, and_parts, both_ways, cases_Bool, cases_eq, cases_lt, le-leb, leb-false, leb-true}
use Rattle.theory.specs.Graphs.{Graph, Lawful}
use Rattle.theory.specs.Orders.{Order, Strict}
use Rattle.theory.specs.Sets.{bit, count, Relation, Set, total, ◌∈◌}
use Rattle.theory.proofs.Counting.{count_none, count_one}
use Rattle.theory.proofs.Sets.{false_since}
use Rattle.theory.proofs.Totals.{count_total, rows_columns, total_row, total_same, total_zero}
use Rattle.forest.specs.HolderLaws.{AddingUpIsWhole, SizesAddUp}
use Rattle.forest.specs.Holders.{holder, is, total_from}
use Rattle.forest.specs.Rounds.{circle, key, own, rounds}
use Rattle.forest.proofs.Holders.{circle_round, holder_some, is_tells, key_held, nest, parts}
use Rattle.forest.proofs.Rounds.{own_circle, own_round}

-- if each that passes p passes q, or R at one number, the count is a sum
sum_of_parts : (p q : Set) (R : ℕ → Set) (m n : ℕ) → ((v : ℕ) → bit (p v) ≡ bit (q v) + count (λ i. R i v) m) → count p n ≡ count q n + total (λ i. count (R i) n) m
sum_of_parts p q R m n h =
    omega (arith, count_total p n, total_same (λ v. bit (p v)) (λ v. bit (q v) + count (λ i. R i v) m) n (λ v _. h v), total_row q (λ v. count (λ i. R i v) m) n, rows_columns R m n)

-- a test in front
count_guard : (b : Bool) (p : Set) (n : ℕ) → count (λ v. b && p v) n ≡ cond b (count p n) 0
count_guard true p n = refl
count_guard false p n = count_none (λ _. false) n (λ v _ m. both_ways false refl m)

bit_both : (a b : Bool) (c : ℕ) → a ≡ true → ((b ≡ true) × (c ≡ 0)) ⊎ ((b ≡ false) × (c ≡ 1)) → bit a ≡ bit b + c
bit_both a b c e (inl (x, y)) = omega (arith, ap bit e, ap bit x)
bit_both a b c e (inr (x, y)) = omega (arith, ap bit e, ap bit x)

bit_none : (a b : Bool) (c : ℕ) → a ≡ false → b ≡ false → c ≡ 0 → bit a ≡ bit b + c
bit_none a b c e x y = omega (arith, ap bit e, ap bit x)

module _ (g : Graph) (o : Lawful g) (le : Relation) (t : Order le) (str : Strict le) (k j : ℕ) (bj : j < rounds g le k) where
  child_sub : (i v : ℕ) → holder g le k i ≡ some j → v ∈ circle g le k i → (j < i) × (v ∈ circle g le k j)
  child_sub i v e m = let (a, p, f) = holder_some g o le t str k i j (circle_round g o le t str k i v m).1 e in (a, p v m)

  -- nobody dropped in round j is in a circle that j is the holder of
  child_own : (i v : ℕ) → holder g le k i ≡ some j → v ∈ circle g le k i → v ∈ own g le k j → ⊥
  child_own i v e m n = let x = (circle_round g o le t str k i v m).2 in let y = own_round g o le t str k j v n in let z = (child_sub i v e m).0 in omega arith

  -- two circles that j is the holder of are apart
  child_once : (i h v : ℕ) → holder g le k i ≡ some j → holder g le k h ≡ some j → v ∈ circle g le k i → v ∈ circle g le k h → i ≡ h
  child_once i h v a b m n = go (cases_lt i h) (cases_lt h i)
    where
      clash : (x y : ℕ) → x < y → holder g le k x ≡ some j → holder g le k y ≡ some j → v ∈ circle g le k x → v ∈ circle g le k y → ⊥
      clash x y l p q s u =
          let ly = (circle_round g o le t str k y v u).1 in
          let ky : key g le k y ∈ circle g le k x = nest g o le t str k x y (omega arith) ly v s u (key g le k y) (key_held g o le t str k y ly) in
          let low = (holder_some g o le t str k y j ly q).2 x l ky in
          let high = (child_sub x v p s).0 in
          omega arith

      go : (i < h) ⊎ (h ≤ i) → (h < i) ⊎ (i ≤ h) → i ≡ h
      go (inl l) y = absurd (clash i h l a b m n)
      go (inr l) (inl l') = absurd (clash h i l' b a n m)
      go (inr l) (inr l') = omega arith

  one_member : (v : ℕ) → bit (circle g le k j v) ≡ bit (own g le k j v) + count (λ i. is j (holder g le k i) && circle g le k i v) (rounds g le k)
  one_member v = elim (cases_Bool (circle g le k j v)) [
    | inl m ↦ bit_both _ _ _ m (go m (cases_Bool (own g le k j v)))
    | inr f ↦ bit_none _ _ _ f (false_since _ (λ n. both_ways _ f (own_circle g o le t str k j bj v n))) (count_none _ (rounds g le k) (λ i l h. let (a, b) = and_parts _ _ h in both_ways _ f (child_sub i v ((is_tells j (holder g le k i)).0 a) b).1))
  ]
    where
      go : v ∈ circle g le k j → (own g le k j v ≡ true) ⊎ (own g le k j v ≡ false) → ((own g le k j v ≡ true) × (count (λ i. is j (holder g le k i) && circle g le k i v) (rounds g le k) ≡ 0)) ⊎ ((own g le k j v ≡ false) × (count (λ i. is j (holder g le k i) && circle g le k i v) (rounds g le k) ≡ 1))
      go m (inl n) = inl (n, count_none _ (rounds g le k) (λ i l h. let (a, b) = and_parts _ _ h in child_own i v ((is_tells j (holder g le k i)).0 a) b n))
      go m (inr f) = elim (parts g o le t str k j v m) [
        | inl n ↦ absurd (both_ways _ f n)
        | inr x ↦ let (i, l, e, n) = x in inr (f, count_one _ (rounds g le k) i l (and_from _ _ ((is_tells j (holder g le k i)).1 e) n) (λ h _ q. let (a, b) = and_parts _ _ q in child_once h i v ((is_tells j (holder g le k h)).0 a) e b n))
      ]

pub sizes_add_up : SizesAddUp
sizes_add_up g o le t str k j bj =
    omega (arith, sum_of_parts (circle g le k j) (own g le k j) (λ i v. is j (holder g le k i) && circle g le k i v) (rounds g le k) g.size (one_member g o le t str k j bj), total_same (λ i. count (λ v. is j (holder g le k i) && circle g le k i v) g.size) (λ i. cond (is j (holder g le k i)) (count (circle g le k i) g.size) 0) (rounds g le k) (λ i _. count_guard (is j (holder g le k i)) (circle g le k i) g.size))

-- beyond n there is nothing to sum
total_none : (f : ℕ → ℕ) (j n : ℕ) → n ≤ j → total_from f j n ≡ 0
unfolding total_from
total_none f j n h = total_same (λ i. cond (leb j i) (f i) 0) (λ _. 0) n (λ i l. ap (λ b. cond b (f i) 0) (false_since _ (λ q. let z = leb-true j i q in omega arith))) ∙ total_zero n

from_end : (f : ℕ → ℕ) (n : ℕ) → total_from f n n ≡ 0
from_end f n = total_none f n n (omega arith)

from_all : (f : ℕ → ℕ) (j n : ℕ) → ((i : ℕ) → i < n → i < j → f i ≡ 0) → total_from f j n ≡ total f n
unfolding total_from
from_all f j n h = total_same (λ i. cond (leb j i) (f i) 0) f n (λ i l. go i l (cases_Bool (leb j i)))
  where
    go : (i : ℕ) → i < n → (leb j i ≡ true) ⊎ (leb j i ≡ false) → cond (leb j i) (f i) 0 ≡ f i
    go i l (inl e) = ap (λ b. cond b (f i) 0) e
    go i l (inr e) = ap (λ b. cond b (f i) 0) e ∙ sym (h i l (leb-false j i e))

from_suc : (f : ℕ → ℕ) (j n : ℕ) → total_from f j (suc n) ≡ cond (leb j n) (f n) 0 + total_from f j n
unfolding total_from total
from_suc f j n = refl

from_step : (f : ℕ → ℕ) (j n : ℕ) → j < n → total_from f j n ≡ f j + total_from f (suc j) n
from_step f j zero l = absurd (omega arith)
from_step f j (suc n) l = go (cases_eq j n) (from_step f j n)
  where
    takes : (i : ℕ) → i ≤ n → cond (leb i n) (f n) 0 ≡ f n
    takes i h = ap (λ b. cond b (f n) 0) (le-leb i n h)

    go : (j ≡ n) ⊎ (j ≡ n → ⊥) → (j < n → total_from f j n ≡ f j + total_from f (suc j) n) → total_from f j (suc n) ≡ f j + total_from f (suc j) (suc n)
    go (inl e) ih =
        let past : cond (leb (suc j) n) (f n) 0 ≡ 0 = ap (λ b. cond b (f n) 0) (false_since _ (λ h. let z = leb-true (suc j) n h in omega arith)) in
        let one : total_from f j n ≡ 0 = subst (λ z. total_from f z n ≡ 0) (sym e) (from_end f n) in
        let two : total_from f (suc j) n ≡ 0 = total_none f (suc j) n (omega arith) in
        omega (arith, from_suc f j n, from_suc f (suc j) n, takes j (omega arith), past, one, two, ap f e)
    go (inr d) ih = omega (arith, ih (omega arith), from_suc f j n, from_suc f (suc j) n, takes j (omega arith), takes (suc j) (omega arith))

pub adding_up_is_whole : AddingUpIsWhole
adding_up_is_whole g o le t str k own_of whole sum h l = (
  omega (arith, from_end F (rounds g le k)),
  (λ j b. omega (arith, from_step F j (rounds g le k) b)),
  (λ j b. omega (arith, sum h l, from_all F j (rounds g le k) (λ i c d. early i c (omega arith)))),
)
  where
    F : ℕ → ℕ
    F i = cond (is h (holder g le k i)) (whole i) 0

    early : (i : ℕ) → i < rounds g le k → i ≤ h → F i ≡ 0
    early i c d = ap (λ b. cond b (whole i) 0) (false_since _ (λ q. let e = (is_tells h (holder g le k i)).0 q in let z = (holder_some g o le t str k i h c e).0 in omega arith))
