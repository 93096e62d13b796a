-- There is a weakest member, and the function finds one.
use Rattle.std.proofs.Common.{◌≡◌, ℕ, zero, suc, ◌<◌, Bool, true, false, cond, refl, inl, inr, arith}
use mathlib.Core.Option.{none, Option, some}
use Rattle.std.proofs.lemmas.Bool.{both_ways}
use Rattle.theory.specs.Orders.{Order, weaker_of, Weakest, weakest}
use Rattle.theory.specs.Sets.{Relation, Set, ◌∈◌}
use Rattle.theory.proofs.Counting.{one_more}

-- what the function finds below n
abbrev pub WeakestIs : Relation → Set → ℕ → Option ℕ → Type 0
WeakestIs le S n none = (v : ℕ) → v < n → v ∈ S → ⊥
WeakestIs le S n (some w) = (w < n) × (w ∈ S) × ((v : ℕ) → v < n → v ∈ S → le w v ≡ true)

module _ (le : Relation) (t : Order le) where
  pub le_self : (w : ℕ) → le w w ≡ true
  le_self w = elim (t.total w w) [ inl h ↦ h | inr h ↦ h ]

  -- who is not at most v is at least v
  pub le_other : (u v : ℕ) → le u v ≡ false → le v u ≡ true
  le_other u v h = elim (t.total u v) [ inl p ↦ absurd (both_ways (le u v) h p) | inr p ↦ p ]

  pub weakest_is : (S : Set) (n : ℕ) → WeakestIs le S n (weakest le S n)
  unfolding weakest
  weakest_is S zero = λ v l. absurd (omega arith)
  weakest_is S (suc n) = go (S n) refl (weakest le S n) (weakest_is S n)
    where
      join : (b : Bool) (w : ℕ) → le w n ≡ b → S n ≡ true → WeakestIs le S n (some w) → WeakestIs le S (suc n) (some (cond b w n))
      join true w h m (l, s, f) = (omega arith, s, one_more (λ v. v ∈ S → le w v ≡ true) n f (λ _. h))
      join false w h m (l, s, f) = (omega arith, m, one_more (λ v. v ∈ S → le n v ≡ true) n (λ v k s'. t.chain n w v (le_other w n h) (f v k s')) (λ _. le_self n))

      go : (b : Bool) → S n ≡ b → (x : Option ℕ) → WeakestIs le S n x → WeakestIs le S (suc n) (cond b (some (weaker_of le n x)) x)
      go true m none f = (omega arith, m, one_more (λ v. v ∈ S → le n v ≡ true) n (λ v l s. absurd (f v l s)) (λ _. le_self n))
      go true m (some w) h = join (le w n) w refl m h
      go false m none f = one_more (λ v. v ∈ S → ⊥) n f (both_ways (S n) m)
      go false m (some w) (l, s, f) = (omega arith, s, one_more (λ v. v ∈ S → le w v ≡ true) n f (λ s'. absurd (both_ways (S n) m s')))

  pub weakest_of : (S : Set) (n : ℕ) → ((v : ℕ) → v ∈ S → v < n) → (u : ℕ) → u ∈ S → (w : ℕ) × Weakest le S w
  weakest_of S n i u m = go (weakest le S n) (weakest_is S n)
    where
      go : (x : Option ℕ) → WeakestIs le S n x → (w : ℕ) × Weakest le S w
      go none f = absurd (f u (i u m) m)
      go (some w) (l, s, f) = (w, (s, λ v k. f v (i v k) k))
