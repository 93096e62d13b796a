-- Lists made from a function of the place, what stands in them, and the largest of numbers.
use Rattle.std.proofs.Common.{◌≡◌, ℕ, zero, suc, ◌+◌, ◌<◌, ◌≤◌, max, cond, eqb, ◌≢◌, ◌⊎◌, ◌∷◌, map, sym, refl, ap, subst, inl, inr, arith}
use mathlib.Core.Option.{Option}
use Rattle.std.specs.List.{range_with_len}
use Rattle.std.proofs.lemmas.List.{map-id}
use Rattle.std.proofs.lemmas.Bool.{cases_eq, eq-eqb, ne_eqb}
use Rattle.theory.specs.Sets.{◌among◌, Pairwise}
use Rattle.theory.proofs.Lists.{all_from}
use Rattle.forest.specs.Picking.{under_of}
use Rattle.forest.specs.Trees.{largest, Vertex}

module _ {A : Type 0} (f : ℕ → A) where
  pub placed_among : (a n i : ℕ) → a ≤ i → i < a + n → f i among map f (range_with_len a n)
  placed_among a zero i l h = absurd (omega arith)
  placed_among a (suc n) i l h = go (cases_eq i a) (placed_among (a + 1) n i)
    where
      go : (i ≡ a) ⊎ (i ≡ a → ⊥) → (a + 1 ≤ i → i < a + 1 + n → f i among map f (range_with_len (a + 1) n)) → f i among (f a ∷ map f (range_with_len (a + 1) n))
      go (inl e) ih = inl (ap f e)
      go (inr d) ih = inr (ih (omega arith) (omega arith))

  pub among_placed : (a n : ℕ) (x : A) → x among map f (range_with_len a n) → (i : ℕ) × (a ≤ i) × (i < a + n) × (x ≡ f i)
  among_placed a zero x m = absurd m
  among_placed a (suc n) x (inl e) = (a, omega arith, omega arith, e)
  among_placed a (suc n) x (inr m) = let (i, l, h, e) = among_placed (a + 1) n x m in (i, omega arith, omega arith, e)

  pub placed_pairwise : (R : A → A → Type 0) (a n : ℕ) → ((i j : ℕ) → i < j → j < a + n → R (f i) (f j)) → Pairwise R (map f (range_with_len a n))
  placed_pairwise R a zero h = tt
  placed_pairwise R a (suc n) h = (
    all_from (R (f a)) (map f (range_with_len (a + 1) n)) (λ x m. let (i, l, b, e) = among_placed (a + 1) n x m in subst (R (f a)) (sym e) (h a i (omega arith) (omega arith))),
    placed_pairwise R (a + 1) n (λ i j l b. h i j l (omega arith)),
  )

pub counted_below : (n i : ℕ) → i among range_with_len 0 n → i < n
counted_below n i m = let (j, _, b, e) = among_placed (λ j. j) 0 n i (subst (λ xs. i among xs) (sym (map-id (range_with_len 0 n))) m) in omega arith

pub under_placed : (f : ℕ → Vertex) (a n i : ℕ) → a ≤ i → i < a + n → ((j : ℕ) → a ≤ j → j < i → (f j).weakest ≢ (f i).weakest) → under_of (map f (range_with_len a n)) (f i).weakest ≡ (f i).under
unfolding under_of
under_placed f a zero i l h d = absurd (omega arith)
under_placed f a (suc n) i l h d = go (cases_eq i a) (under_placed f (a + 1) n i)
  where
    rest : ℕ → Option ℕ
    rest w = under_of (map f (range_with_len (a + 1) n)) w

    go : (i ≡ a) ⊎ (i ≡ a → ⊥) → (a + 1 ≤ i → i < a + 1 + n → ((j : ℕ) → a + 1 ≤ j → j < i → (f j).weakest ≢ (f i).weakest) → rest (f i).weakest ≡ (f i).under) → cond (eqb (f a).weakest (f i).weakest) (f a).under (rest (f i).weakest) ≡ (f i).under
    go (inl e) ih = rw (e, eq-eqb (f a).weakest (f a).weakest refl) refl
    go (inr s) ih = rw (ne_eqb (f a).weakest (f i).weakest (d a (omega arith) (omega arith))) (ih (omega arith) (omega arith) (λ j b c. d j (omega arith) c))

pub largest_is : (f : ℕ → ℕ) (n v : ℕ) → v < n → f v ≤ largest f n
unfolding largest
largest_is f zero v l = absurd (omega arith)
largest_is f (suc n) v l = go (cases_eq v n) (largest_is f n v)
  where
    go : (v ≡ n) ⊎ (v ≡ n → ⊥) → (v < n → f v ≤ largest f n) → f v ≤ max (f n) (largest f n)
    go (inl e) ih = omega (arith, ap f e)
    go (inr d) ih = omega (arith, ih (omega arith))
