-- Lists of persons that rise by a strict order: all persons, and lists with the same members.
use Rattle.std.proofs.Common.{◌≡◌, ℕ, zero, suc, ◌<◌, ◌≤◌, Bool, true, false, cond, ◌≢◌, List, [], ◌∷◌, length, sym, refl, ◌∙◌, inl, inr, arith}
use Rattle.std.specs.List.{AllByRecursion}
use Rattle.std.proofs.ByRecursion.{All-weaker}
use Rattle.std.proofs.lemmas.Bool.{both_ways}
use Rattle.theory.specs.Listing.{insert, ranked}
use Rattle.theory.specs.Orders.{Ranking}
use Rattle.theory.specs.Sets.{◌among◌, Pairwise, Relation}
use Rattle.theory.proofs.Counting.{one_more}
use Rattle.theory.proofs.Lists.{all_among, pairwise_same}

module _ {le : Relation} (wk : Relation) (rk : Ranking le wk) where
  pub never : (u : ℕ) → wk u u ≡ true → ⊥
  never u h = both_ways (wk u u) (rk.one_way u u h) h

  insert_all : (P : ℕ → Type 0) (x : ℕ) (ys : List ℕ) → P x → AllByRecursion P ys → AllByRecursion P (insert wk x ys)
  unfolding insert
  insert_all P x [] h a = (h, tt)
  insert_all P x (y ∷ ys) h a = go (wk x y) (insert_all P x ys h a.1)
    where
      go : (b : Bool) → AllByRecursion P (insert wk x ys) → AllByRecursion P (cond b (x ∷ y ∷ ys) (y ∷ insert wk x ys))
      go true ih = (h, a)
      go false ih = (a.0, ih)

  insert_holds : (x : ℕ) (ys : List ℕ) → (x among insert wk x ys) × ((v : ℕ) → v among ys → v among insert wk x ys)
  unfolding insert
  insert_holds x [] = (inl refl, λ v m. absurd m)
  insert_holds x (y ∷ ys) = go (wk x y) (insert_holds x ys)
    where
      go : (b : Bool) → (x among insert wk x ys) × ((v : ℕ) → v among ys → v among insert wk x ys) → (x among cond b (x ∷ y ∷ ys) (y ∷ insert wk x ys)) × ((v : ℕ) → v among (y ∷ ys) → v among cond b (x ∷ y ∷ ys) (y ∷ insert wk x ys))
      go true ih = (inl refl, λ v m. inr m)
      go false ih = (inr ih.0, λ v m. elim m [ inl e ↦ inl e | inr n ↦ inr (ih.1 v n) ])

  insert_rising : (x : ℕ) (ys : List ℕ) → AllByRecursion (λ y. x ≢ y) ys → Pairwise (λ u v. wk u v ≡ true) ys → Pairwise (λ u v. wk u v ≡ true) (insert wk x ys)
  unfolding insert
  insert_rising x [] d p = (tt, tt)
  insert_rising x (y ∷ ys) d p = go (wk x y) refl (insert_rising x ys d.1 p.1)
    where
      go : (b : Bool) → wk x y ≡ b → Pairwise (λ u v. wk u v ≡ true) (insert wk x ys) → Pairwise (λ u v. wk u v ≡ true) (cond b (x ∷ y ∷ ys) (y ∷ insert wk x ys))
      go true h ih = ((h, All-weaker _ _ (λ z k. rk.through x y z h k) ys p.0), p)
      go false h ih =
          let back : wk y x ≡ true = elim (rk.either x y d.0) [ inl t ↦ absurd (both_ways (wk x y) h t) | inr t ↦ t ] in
          (insert_all (λ z. wk y z ≡ true) x ys back p.0, ih)

  ranked_below : (n : ℕ) → AllByRecursion (λ v. v < n) (ranked wk n)
  unfolding ranked
  ranked_below zero = tt
  ranked_below (suc n) = insert_all (λ v. v < suc n) n (ranked wk n) (omega arith) (All-weaker _ _ (λ v l. omega arith) (ranked wk n) (ranked_below n))

  pub ranked_holds : (n v : ℕ) → v < n → v among ranked wk n
  unfolding ranked
  ranked_holds zero v l = absurd (omega arith)
  ranked_holds (suc n) v l = one_more (λ u. u among insert wk n (ranked wk n)) n (λ u k. (insert_holds n (ranked wk n)).1 u (ranked_holds n u k)) (insert_holds n (ranked wk n)).0 v l

  pub ranked_rising : (n : ℕ) → Pairwise (λ u v. wk u v ≡ true) (ranked wk n)
  unfolding ranked
  ranked_rising zero = tt
  ranked_rising (suc n) = insert_rising n (ranked wk n) (All-weaker _ _ (λ v l. omega arith) (ranked wk n) (ranked_below n)) (ranked_rising n)

  pub rising_same : (xs ys : List ℕ) → Pairwise (λ u v. wk u v ≡ true) xs → Pairwise (λ u v. wk u v ≡ true) ys → ((v : ℕ) → v among xs → v among ys) → ((v : ℕ) → v among ys → v among xs) → xs ≡ ys
  rising_same = pairwise_same (λ u v. wk u v ≡ true) (λ u v h h'. both_ways (wk v u) (rk.one_way u v h) h')

  -- a rising list whose members another has is no longer
  pub rising_fits : (xs ys : List ℕ) → Pairwise (λ u v. wk u v ≡ true) xs → Pairwise (λ u v. wk u v ≡ true) ys → ((v : ℕ) → v among xs → v among ys) → length xs ≤ length ys
  rising_fits [] ys p q f = omega arith
  rising_fits (x ∷ xs) [] p q f = absurd (f x (inl refl))
  rising_fits (x ∷ xs) (y ∷ ys) p q f = go (f x (inl refl)) (rising_fits xs ys p.1 q.1) (rising_fits (x ∷ xs) ys p q.1)
    where
      go : x among (y ∷ ys) → (((v : ℕ) → v among xs → v among ys) → length xs ≤ length ys) → (((v : ℕ) → v among (x ∷ xs) → v among ys) → suc (length xs) ≤ length ys) → suc (length xs) ≤ suc (length ys)
      go (inl e) one two =
          let fits : length xs ≤ length ys = one (λ v m. elim (f v (inr m)) [ inl s ↦ absurd (never x (rw (s ∙ sym e) at (all_among (λ v. wk x v ≡ true) xs v p.0 m))) | inr n ↦ n ]) in
          omega arith
      go (inr n) one two =
          let yx : wk y x ≡ true = all_among (λ v. wk y v ≡ true) ys x q.0 n in
          let fits : suc (length xs) ≤ length ys =
          two (λ v m. elim m [
            | inl s ↦ rw s n
            | inr m' ↦ elim (f v (inr m')) [ inl s ↦ absurd (both_ways (wk x y) (rk.one_way y x yx) (rw s at (all_among (λ v. wk x v ≡ true) xs v p.0 m'))) | inr n' ↦ n' ]
          ]) in
          omega arith
