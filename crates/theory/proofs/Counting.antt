-- How many numbers below n pass a test.
use Rattle.std.proofs.Common.{◌≡◌, ℕ, zero, suc, ◌+◌, ◌<◌, ◌≤◌, Bool, true, false, not, ◌&&◌, eqb, ◌≢◌, ◌⊎◌, Decides, refl, ap, inl, inr, arith}
use Rattle.std.proofs.lemmas.Bool.{and_from, and_parts, and_right, both_ways, cases_Bool, cases_eq, eq-eqb, ne_eqb, not_from_false, not_from_true}
use Rattle.std.proofs.lemmas.Bool.Decides.{Decides-below_or}
use Rattle.theory.specs.Sets.{any, bit, count, Set, without, ◌∈◌}
use Rattle.theory.proofs.Sets.{false_since, same_test, without_from}

pub bit_mono : (a b : Bool) → (a ≡ true → b ≡ true) → bit a ≤ bit b
bit_mono true b h = rw (h refl) (omega arith)
bit_mono false b h = omega arith

-- what holds below n and at n holds below n + 1
pub one_more : (P : ℕ → Type 0) (n : ℕ) → ((v : ℕ) → v < n → P v) → P n → (v : ℕ) → v < suc n → P v
one_more P n f x v l = go (cases_eq v n)
  where
    go : (v ≡ n) ⊎ (v ≡ n → ⊥) → P v
    go (inl e) = rw e x
    go (inr d) = f v (omega arith)

pub count_suc : (p : Set) (n : ℕ) → count p (suc n) ≡ bit (p n) + count p n
unfolding count
count_suc p n = refl

pub count_zero : (p : Set) → count p 0 ≡ 0
unfolding count
count_zero p = refl

pub count_mono : (p q : Set) (n : ℕ) → ((v : ℕ) → v < n → v ∈ p → v ∈ q) → count p n ≤ count q n
unfolding count
count_mono p q zero h = omega arith
count_mono p q (suc n) h = omega (arith, bit_mono (p n) (q n) (h n (omega arith)), count_mono p q n (λ v l. h v (omega arith)))

pub count_le : (p : Set) (n : ℕ) → count p n ≤ n
unfolding count
count_le p zero = omega arith
count_le p (suc n) = omega (arith, bit_mono (p n) true (λ _. refl), count_le p n)

-- a part of q is all of q, or counts less
pub same_or_less : (p q : Set) (n : ℕ) → ((v : ℕ) → v < n → v ∈ p → v ∈ q) → ((v : ℕ) → v < n → v ∈ q → v ∈ p) ⊎ (count p n < count q n)
unfolding count
same_or_less p q zero h = inl (λ v l. absurd (omega arith))
same_or_less p q (suc n) h = go (p n) refl (q n) refl (same_or_less p q n (λ v l. h v (omega arith)))
  where
    go : (a : Bool) → p n ≡ a → (b : Bool) → q n ≡ b → ((v : ℕ) → v < n → v ∈ q → v ∈ p) ⊎ (count p n < count q n) → ((v : ℕ) → v < suc n → v ∈ q → v ∈ p) ⊎ (count p (suc n) < count q (suc n))
    go true ea b eb (inl f) = inl (one_more (λ v. v ∈ q → v ∈ p) n f (λ _. ea))
    go true ea b eb (inr c) = inr (omega (arith, bit_mono (p n) (q n) (h n (omega arith)), c))
    go false ea true eb r = inr (rw (ea, eb) (omega (arith, count_mono p q n (λ v l. h v (omega arith)))))
    go false ea false eb (inl f) = inl (one_more (λ v. v ∈ q → v ∈ p) n f (λ m. absurd (both_ways (q n) eb m)))
    go false ea false eb (inr c) = inr (rw (ea, eb) (omega arith))

pub any_tells : (p : Set) (n : ℕ) → Decides (any p n) ((v : ℕ) × (v < n) × (v ∈ p))
unfolding any
any_tells p n = Decides-below_or p (λ v. v ∈ p) (any p) (λ v. ((λ e. e), (λ e. e))) refl (λ _. refl) n

-- without a member it counts less
pub without_less : (S : Set) (w n : ℕ) → w < n → w ∈ S → count (without S w) n < count S n
without_less S w n l m = go (same_or_less (without S w) S n (λ v _ h. (without_from S w v h).0))
  where
    go : ((v : ℕ) → v < n → v ∈ S → v ∈ without S w) ⊎ (count (without S w) n < count S n) → count (without S w) n < count S n
    go (inl f) = absurd ((without_from S w w (f w l m)).1 refl)
    go (inr c) = c

pub falling : (p : Set) → ((v : ℕ) → suc v ∈ p → v ∈ p) → (n v : ℕ) → v ≤ n → n ∈ p → v ∈ p
falling p down zero v l m = let z : v ≡ 0 = omega arith in rw z m
falling p down (suc n) v l m = go (cases_eq v (suc n)) (λ h. falling p down n v h (down n m))
  where
    go : (v ≡ suc n) ⊎ (v ≡ suc n → ⊥) → (v ≤ n → v ∈ p) → v ∈ p
    go (inl e) ih = rw e m
    go (inr d) ih = ih (omega arith)

pub count_full : (p : Set) (n : ℕ) → ((v : ℕ) → v < n → v ∈ p) → count p n ≡ n
unfolding count
count_full p zero h = refl
count_full p (suc n) h = rw (h n (omega arith)) (omega (arith, count_full p n (λ v l. h v (omega arith))))

-- the numbers that pass are those below the count
pub count_front : (p : Set) → ((v : ℕ) → suc v ∈ p → v ∈ p) → (n c : ℕ) → (c < n → c ∈ p → c < count p n) × (c < count p n → c ∈ p)
unfolding count
count_front p down zero c = ((λ l m. absurd (omega arith)), (λ l. absurd (omega arith)))
count_front p down (suc n) c = go (cases_Bool (p n)) (count_front p down n c)
  where
    go : (p n ≡ true) ⊎ (p n ≡ false) → (c < n → c ∈ p → c < count p n) × (c < count p n → c ∈ p) → (c < suc n → c ∈ p → c < count p (suc n)) × (c < count p (suc n) → c ∈ p)
    go (inl t) ih = ((λ l m. omega (arith, full)), (λ l. falling p down n c (omega (arith, count_le p (suc n))) t))
      where
        full : count p (suc n) ≡ suc n
        full = count_full p (suc n) (λ v k. falling p down n v (omega arith) t)
    go (inr f) ih = ((λ l m. omega (arith, ih.0 (omega (arith, other m)) m, none)), (λ l. ih.1 (omega (arith, none))))
      where
        none : bit (p n) ≡ 0
        none = ap bit f

        other : c ∈ p → c ≢ n
        other m e = both_ways (p n) f (rw e at m)

pub count_same : (p q : Set) (n : ℕ) → ((v : ℕ) → v < n → p v ≡ q v) → count p n ≡ count q n
unfolding count
count_same p q zero h = refl
count_same p q (suc n) h = omega (arith, ap bit (h n (omega arith)), count_same p q n (λ v l. h v (omega arith)))

-- one that is counted, taken apart
pub count_split : (p : Set) (w n : ℕ) → w < n → count p n ≡ bit (p w) + count (λ v. p v && not (eqb v w)) n
unfolding count
count_split p w zero l = absurd (omega arith)
count_split p w (suc n) l = go (cases_eq n w) (count_split p w n)
  where
    q : Set
    q v = p v && not (eqb v w)

    other : (v : ℕ) → v ≢ w → p v ≡ q v
    other v d = same_test (p v) (q v) (λ m. and_from (p v) _ m (not_from_false (eqb v w) (ne_eqb v w d))) (λ m. (and_parts (p v) _ m).0)

    gone : (v : ℕ) → v ≡ w → q v ≡ false
    gone v e = and_right (p v) _ (not_from_true (eqb v w) (eq-eqb v w e))

    go : (n ≡ w) ⊎ (n ≡ w → ⊥) → (w < n → count p n ≡ bit (p w) + count q n) → bit (p n) + count p n ≡ bit (p w) + (bit (q n) + count q n)
    go (inl e) ih = omega (arith, ap bit (gone n e), ap (λ x. bit (p x)) e, count_same p q n (λ v k. other v (λ s. omega arith)))
    go (inr d) ih = omega (arith, ih (omega arith), ap bit (other n d))

pub count_none : (p : Set) (n : ℕ) → ((v : ℕ) → v < n → v ∈ p → ⊥) → count p n ≡ 0
unfolding count
count_none p zero h = refl
count_none p (suc n) h = omega (arith, ap bit (false_since (p n) (h n (omega arith))), count_none p n (λ v l. h v (omega arith)))

pub count_one : (p : Set) (n i : ℕ) → i < n → i ∈ p → ((j : ℕ) → j < n → j ∈ p → j ≡ i) → count p n ≡ 1
count_one p n i l m u = omega (arith, count_split p i n l, ap bit m, count_none (λ v. p v && not (eqb v i)) n (λ v b h. let (x, y) = and_parts (p v) _ h in other v (u v b x) y))
  where
    other : (v : ℕ) → v ≡ i → not (eqb v i) ≡ true → ⊥
    other v e h = both_ways (not (eqb v i)) (not_from_true (eqb v i) (eq-eqb v i e)) h

pub count_cut : (p : Set) (c m : ℕ) → ((v : ℕ) → v < c → v ∈ p) → ((v : ℕ) → c ≤ v → v ∈ p → ⊥) → c ≤ m → count p m ≡ c
unfolding count
count_cut p c zero a b l = omega arith
count_cut p c (suc m) a b l = go (cases_eq c (suc m)) (count_cut p c m a b)
  where
    full : (n : ℕ) → n ≤ c → count p n ≡ n
    full zero h = refl
    full (suc n) h = omega (arith, ap bit (a n (omega arith)), full n (omega arith))

    go : (c ≡ suc m) ⊎ (c ≡ suc m → ⊥) → (c ≤ m → count p m ≡ c) → bit (p m) + count p m ≡ c
    go (inl e) ih = omega (arith, full (suc m) (omega arith))
    go (inr d) ih = omega (arith, ih (omega arith), ap bit (false_since (p m) (b m (omega arith))))
