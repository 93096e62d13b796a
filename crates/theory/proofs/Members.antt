-- The list of the members of a set.
use Rattle.std.proofs.Common.{◌≡◌, ℕ, zero, suc, ◌+◌, ◌<◌, ◌≤◌, Bool, true, false, cond, ◌⊎◌, List, ◌∷◌, length, filter, refl, ap, ◌∙◌, inl, inr, arith}
use Rattle.std.specs.List.{range_with_len}
use Rattle.std.proofs.lemmas.Bool.{both_ways, cases_eq}
use Rattle.theory.specs.ListingLaws.{MembersRise}
use Rattle.theory.specs.Sets.{◌among◌, bit, count, ListOf, members, Pairwise, Set, ◌∈◌}
use Rattle.theory.proofs.Counting.{count_suc, count_zero}
use Rattle.theory.proofs.Lists.{all_from, pairwise_same}

module _ (p : Set) where
  pub members_among : (a n v : ℕ) → a ≤ v → v < a + n → v ∈ p → v among filter p (range_with_len a n)
  members_among a zero v l h m = absurd (omega arith)
  members_among a (suc n) v l h m = go (p a) refl (cases_eq v a) (members_among (a + 1) n v)
    where
      go : (b : Bool) → p a ≡ b → (v ≡ a) ⊎ (v ≡ a → ⊥) → (a + 1 ≤ v → v < a + 1 + n → v ∈ p → v among filter p (range_with_len (a + 1) n)) → v among cond b (a ∷ filter p (range_with_len (a + 1) n)) (filter p (range_with_len (a + 1) n))
      go true e (inl s) ih = inl s
      go true e (inr d) ih = inr (ih (omega arith) (omega arith) m)
      go false e (inl s) ih = absurd (both_ways (p a) e (rw s at m))
      go false e (inr d) ih = ih (omega arith) (omega arith) m

  pub among_members : (a n v : ℕ) → v among filter p (range_with_len a n) → (a ≤ v) × (v < a + n) × (v ∈ p)
  among_members a zero v m = absurd m
  among_members a (suc n) v m = go (p a) refl m (among_members (a + 1) n v)
    where
      go : (b : Bool) → p a ≡ b → v among cond b (a ∷ filter p (range_with_len (a + 1) n)) (filter p (range_with_len (a + 1) n)) → (v among filter p (range_with_len (a + 1) n) → (a + 1 ≤ v) × (v < a + 1 + n) × (v ∈ p)) → (a ≤ v) × (v < a + suc n) × (v ∈ p)
      go true e (inl s) ih = (omega arith, omega arith, rw s e)
      go true e (inr m) ih = let (l, h, q) = ih m in (omega arith, omega arith, q)
      go false e m ih = let (l, h, q) = ih m in (omega arith, omega arith, q)

  pub members_length : (a n : ℕ) → length (filter p (range_with_len a n)) + count p a ≡ count p (a + n)
  members_length a zero = let e : a + 0 ≡ a = omega arith in omega (arith, ap (count p) e)
  members_length a (suc n) = go (p a) refl (members_length (a + 1) n)
    where
      e : a + 1 + n ≡ a + suc n
      e = omega arith

      one : count p (a + 1) ≡ bit (p a) + count p a
      one = let z : a + 1 ≡ suc a = omega arith in ap (count p) z ∙ count_suc p a

      go : (b : Bool) → p a ≡ b → length (filter p (range_with_len (a + 1) n)) + count p (a + 1) ≡ count p (a + 1 + n) → length (cond b (a ∷ filter p (range_with_len (a + 1) n)) (filter p (range_with_len (a + 1) n))) + count p a ≡ count p (a + suc n)
      go true q ih = omega (arith, ih, one, ap bit q, ap (count p) e)
      go false q ih = omega (arith, ih, one, ap bit q, ap (count p) e)

members_up : (p : Set) (a n : ℕ) → Pairwise (λ u v. u < v) (filter p (range_with_len a n))
members_up p a zero = tt
members_up p a (suc n) = go (p a) (members_up p (a + 1) n)
  where
    go : (b : Bool) → Pairwise (λ u v. u < v) (filter p (range_with_len (a + 1) n)) → Pairwise (λ u v. u < v) (cond b (a ∷ filter p (range_with_len (a + 1) n)) (filter p (range_with_len (a + 1) n)))
    go true h = (all_from (λ v. a < v) (filter p (range_with_len (a + 1) n)) (λ v m. let x = (among_members p (a + 1) n v m).0 in omega arith), h)
    go false h = h

pub members_rise : MembersRise
members_rise p n = (
  members_up p 0 n,
  (λ v. ((λ m. let (a, b, c) = among_members p 0 n v m in (omega arith, c)), (λ l m. members_among p 0 n v (omega arith) (omega arith) m))),
  let z : 0 + n ≡ n = omega arith in omega (arith, members_length p 0 n, count_zero p, ap (count p) z),
)

pub members_list : (S : Set) (n : ℕ) → ((v : ℕ) → v ∈ S → v < n) → ListOf (λ v. v ∈ S) (members S n)
members_list S n ins = let (up, holds, _) = members_rise S n in (up, λ v. ((λ m. ((holds v).0 m).1), (λ m. (holds v).1 (ins v m) m)))

-- a property has one rising list
pub list_same : (P : ℕ → Type 0) (us vs : List ℕ) → ListOf P us → ListOf P vs → us ≡ vs
list_same P us vs (p, f) (q, h) = pairwise_same (λ u v. u < v) (λ u v a b. omega arith) us vs p q (λ v m. (h v).1 ((f v).0 m)) (λ v m. (f v).1 ((h v).0 m))
