-- Ties broken by number, and the orders that a strict order gives.
use Rattle.std.proofs.Common.{◌≡◌, ℕ, ◌<◌, ◌≤◌, true, false, not, ltb, ◌≢◌, ◌⊎◌, sym, subst, inl, inr, arith}
use Rattle.std.proofs.lemmas.Bool.{and_from, and_parts, both_ways, cases_Bool, cases_eq, cases_lt, lt-ltb, ltb-true, not-false, not_from_false, not_from_true, not-true, or_cases, or_left, or_right}
use Rattle.theory.specs.ListingLaws.{SmallerNumberIsWeaker, TiesAreBroken}
use Rattle.theory.specs.Orders.{Below, by_number, Named, not_after, Order, Ranking, Strict, StrictOrder, tie_broken, Weakest}
use Rattle.theory.specs.Sets.{Relation, Set, ◌∈◌}
use Rattle.theory.proofs.Orders.{le_other, le_self, weakest_of}
use Rattle.theory.proofs.Ranked.{never}
use Rattle.theory.proofs.Sets.{false_since}

number_from : (le : Relation) (u v : ℕ) → by_number le u v ≡ true → (le u v ≡ true) × ((le v u ≡ false) ⊎ (u < v))
unfolding by_number
number_from le u v h =
    let (a, b) = and_parts (le u v) _ h in
    (a, elim (or_cases (not (le v u)) (ltb u v) b) [ inl p ↦ inl (not-true (le v u) p) | inr p ↦ inr (ltb-true u v p) ])

number_in : (le : Relation) (u v : ℕ) → le u v ≡ true → (le v u ≡ false) ⊎ (u < v) → by_number le u v ≡ true
unfolding by_number
number_in le u v a (inl f) = and_from (le u v) _ a (or_left (not (le v u)) _ (not_from_false (le v u) f))
number_in le u v a (inr l) = and_from (le u v) _ a (or_right (not (le v u)) _ (lt-ltb u v l))

pub by_number_lem : (le : Relation) → Order le → Ranking le (by_number le)
by_number_lem le t = record { one_way = one; through = thr; either = eith; agrees = λ u v h. (number_from le u v h).0 }
  where
    one : (u v : ℕ) → by_number le u v ≡ true → by_number le v u ≡ false
    one u v h = false_since (by_number le v u) (λ h'. go (number_from le u v h) (number_from le v u h'))
      where
        go : (le u v ≡ true) × ((le v u ≡ false) ⊎ (u < v)) → (le v u ≡ true) × ((le u v ≡ false) ⊎ (v < u)) → ⊥
        go (a, inl f) (b, d) = both_ways (le v u) f b
        go (a, inr l) (b, inl f) = both_ways (le u v) f a
        go (a, inr l) (b, inr l') = omega arith

    thr : (u v w : ℕ) → by_number le u v ≡ true → by_number le v w ≡ true → by_number le u w ≡ true
    thr u v w h h' = go (number_from le u v h) (number_from le v w h')
      where
        go : (le u v ≡ true) × ((le v u ≡ false) ⊎ (u < v)) → (le v w ≡ true) × ((le w v ≡ false) ⊎ (v < w)) → by_number le u w ≡ true
        go (a, inl f) (b, d) = number_in le u w (t.chain u v w a b) (inl (false_since (le w u) (λ p. both_ways (le v u) f (t.chain v w u b p))))
        go (a, inr l) (b, inl f) = number_in le u w (t.chain u v w a b) (inl (false_since (le w u) (λ p. both_ways (le w v) f (t.chain w u v p a))))
        go (a, inr l) (b, inr l') = number_in le u w (t.chain u v w a b) (inr (omega arith))

    eith : (u v : ℕ) → u ≢ v → (by_number le u v ≡ true) ⊎ (by_number le v u ≡ true)
    eith u v d = go (cases_Bool (le u v)) (cases_Bool (le v u)) (cases_lt u v)
      where
        go : (le u v ≡ true) ⊎ (le u v ≡ false) → (le v u ≡ true) ⊎ (le v u ≡ false) → (u < v) ⊎ (v ≤ u) → (by_number le u v ≡ true) ⊎ (by_number le v u ≡ true)
        go (inl a) (inr f) c = inl (number_in le u v a (inl f))
        go (inr f) b c = inr (number_in le v u (le_other le t u v f) (inl f))
        go (inl a) (inl b) (inl l) = inl (number_in le u v a (inr l))
        go (inl a) (inl b) (inr l) = inr (number_in le v u b (inr (omega arith)))

-- not weaker: an order in which no two are level
module _ {le : Relation} (wk : Relation) (rk : Ranking le wk) where
  later : (u v : ℕ) → wk v u ≡ false → (u ≡ v) ⊎ (wk u v ≡ true)
  later u v h = elim (cases_eq u v) [ inl e ↦ inl e | inr d ↦ elim (rk.either u v d) [ inl p ↦ inr p | inr p ↦ absurd (both_ways (wk v u) h p) ] ]

  pub not_after_order : Order (not_after wk)
  unfolding not_after
  not_after_order =
      record {
        total = λ u v. elim (cases_Bool (wk v u)) [ inl h ↦ inr (not_from_false (wk u v) (rk.one_way v u h)) | inr h ↦ inl (not_from_false (wk v u) h) ];
        chain = λ u v w a b. go u v w (not-true (wk v u) a) (not-true (wk w v) b) (later u v (not-true (wk v u) a)) (later v w (not-true (wk w v) b));
      }
    where
      go : (u v w : ℕ) → wk v u ≡ false → wk w v ≡ false → (u ≡ v) ⊎ (wk u v ≡ true) → (v ≡ w) ⊎ (wk v w ≡ true) → not (wk w u) ≡ true
      go u v w a b (inl e) s = rw e (not_from_false (wk w v) b)
      go u v w a b (inr h) (inl e) = rw (← e) (not_from_false (wk v u) a)
      go u v w a b (inr h) (inr h') = not_from_false (wk w u) (rk.one_way u w (rk.through u v w h h'))

  pub not_after_strict : Strict (not_after wk)
  unfolding not_after
  not_after_strict u v a b = elim (later u v (not-true (wk v u) a)) [ inl e ↦ e | inr h ↦ absurd (both_ways (wk u v) (not-true (wk u v) b) h) ]

  -- the weakest by `not after` is the name
  pub weakest_named : (S : Set) (w : ℕ) → Weakest (not_after wk) S w → Named wk S w
  unfolding not_after
  weakest_named S w h = (h.0, λ v s d. elim (later w v (not-true (wk v w) (h.1 v s))) [ inl e ↦ absurd (d (sym e)) | inr p ↦ p ])

  pub name_of : (S : Set) (n : ℕ) → ((v : ℕ) → v ∈ S → v < n) → (u : ℕ) → u ∈ S → (w : ℕ) × Named wk S w
  name_of S n i u m = let (w, h) = weakest_of (not_after wk) not_after_order S n i u m in (w, weakest_named S w h)

  pub named_weakest : Order le → (S : Set) (w : ℕ) → Named wk S w → Weakest le S w
  named_weakest t S w n = (n.0, λ v m. go v m (cases_eq v w))
    where
      go : (v : ℕ) → v ∈ S → (v ≡ w) ⊎ (v ≡ w → ⊥) → le w v ≡ true
      go v m (inl e) = rw e (le_self le t w)
      go v m (inr d) = rk.agrees w v (n.1 v m d)

module _ (le : Relation) (t : Order le) (wk : Relation) (rk : Ranking le wk) where
  pub below_weaker : (u v : ℕ) → Below le u v → wk u v ≡ true
  below_weaker u v b = elim (rk.either u v (λ e. both_ways _ b.1 (subst (λ z. le z u ≡ true) e (le_self le t u)))) [ inl h ↦ h | inr h ↦ absurd (both_ways _ b.1 (rk.agrees v u h)) ]

  pub weakest_name : Strict le → (S : Set) (w : ℕ) → Weakest le S w → Named wk S w
  weakest_name str S w we = (we.0, λ v m d. elim (rk.either w v (λ e. d (sym e))) [ inl h ↦ h | inr h ↦ absurd (d (str v w (rk.agrees v w h) (we.1 v m))) ])

pub weaker_below : (le : Relation) → Strict le → (wk : Relation) → Ranking le wk → (u v : ℕ) → wk u v ≡ true → Below le u v
weaker_below le str wk rk u v h =
    let a : le u v ≡ true = rk.agrees u v h in
    (a, false_since (le v u) (λ b. never wk rk u (subst (λ z. wk u z ≡ true) (sym (str u v a b)) h)))

pub not_after_ranking : (le wk : Relation) → Ranking le wk → Ranking (not_after wk) wk
unfolding not_after
not_after_ranking le wk rk = record { one_way = rk.one_way; through = rk.through; either = rk.either; agrees = λ u v h. not_from_false (wk v u) (rk.one_way u v h) }

pub ties_are_broken : TiesAreBroken
ties_are_broken le t = (by_number_lem le t, λ wk rk. (not_after_order wk rk, not_after_strict wk rk, not_after_ranking le wk rk))

pub tie_broken_lem : (le : Relation) → Order le → StrictOrder (tie_broken le)
tie_broken_lem le t = let rk = by_number_lem le t in (not_after_order (by_number le) rk, not_after_strict (by_number le) rk)

pub smaller_number_is_weaker : SmallerNumberIsWeaker
unfolding not_after
smaller_number_is_weaker le t u v = ((λ b. there (number_from le u v (not-false (by_number le u v) b.1))), (λ x. back (number_in le u v (x_le x) (x_less x))))
  where
    there : (le u v ≡ true) × ((le v u ≡ false) ⊎ (u < v)) → Below le u v ⊎ ((le u v ≡ true) × (le v u ≡ true) × (u < v))
    there (a, inl f) = inl (a, f)
    there (a, inr l) = elim (cases_Bool (le v u)) [ inl b ↦ inr (a, b, l) | inr f ↦ inl (a, f) ]

    x_le : Below le u v ⊎ ((le u v ≡ true) × (le v u ≡ true) × (u < v)) → le u v ≡ true
    x_le (inl (a, f)) = a
    x_le (inr (a, b, l)) = a

    x_less : Below le u v ⊎ ((le u v ≡ true) × (le v u ≡ true) × (u < v)) → (le v u ≡ false) ⊎ (u < v)
    x_less (inl (a, f)) = inl f
    x_less (inr (a, b, l)) = inr l

    back : by_number le u v ≡ true → Below (tie_broken le) u v
    back h = (not_from_false (by_number le v u) ((by_number_lem le t).one_way u v h), not_from_true (by_number le u v) h)
