-- Sums over the numbers below n.
use Rattle.std.proofs.Common.{◌≡◌, ℕ, zero, suc, ◌+◌, ◌*◌, ◌<◌, ◌≤◌, false, sym, refl, ap, arith}
use Rattle.theory.specs.Sets.{bit, count, Set, total}
use Rattle.theory.proofs.Counting.{count_same}

pub total_zero_is : (f : ℕ → ℕ) → total f 0 ≡ 0
unfolding total
total_zero_is f = refl

pub total_suc : (f : ℕ → ℕ) (n : ℕ) → total f (suc n) ≡ f n + total f n
unfolding total
total_suc f n = refl

pub total_same : (f h : ℕ → ℕ) (n : ℕ) → ((v : ℕ) → v < n → f v ≡ h v) → total f n ≡ total h n
unfolding total
total_same f h zero e = refl
total_same f h (suc n) e = omega (arith, e n (omega arith), total_same f h n (λ v l. e v (omega arith)))

pub total_le : (f h : ℕ → ℕ) (n : ℕ) → ((v : ℕ) → v < n → f v ≤ h v) → total f n ≤ total h n
unfolding total
total_le f h zero e = omega arith
total_le f h (suc n) e = omega (arith, e n (omega arith), total_le f h n (λ v l. e v (omega arith)))

pub total_zero : (n : ℕ) → total (λ _. 0) n ≡ 0
unfolding total
total_zero zero = refl
total_zero (suc n) = omega (arith, total_zero n)

-- a row more
pub total_row : (p : Set) (f : ℕ → ℕ) (n : ℕ) → total (λ v. bit (p v) + f v) n ≡ count p n + total f n
unfolding total count
total_row p f zero = refl
total_row p f (suc n) = omega (arith, total_row p f n)

-- the pairs that pass, by rows or by columns
pub rows_columns : (R : ℕ → Set) (m n : ℕ) → total (λ k. count (R k) n) m ≡ total (λ u. count (λ k. R k u) m) n
unfolding total count
rows_columns R zero n = sym (total_zero n)
rows_columns R (suc m) n = omega (arith, rows_columns R m n, total_row (R m) (λ u. count (λ k. R k u) m) n)

-- each link is counted at both its ends
pub ends : (R : ℕ → Set) → ((u v : ℕ) → R u v ≡ R v u) → ((u : ℕ) → R u u ≡ false) → (n : ℕ) → total (λ u. count (R u) n) n ≡ 2 * total (λ u. count (R u) u) n
unfolding total count
ends R sy ir zero = refl
ends R sy ir (suc n) = omega (arith, ends R sy ir n, total_row (λ u. R u n) (λ u. count (R u) n) n, count_same (λ u. R u n) (R n) n (λ u _. sy u n), ap bit (ir n))

pub count_total : (p : Set) (n : ℕ) → total (λ v. bit (p v)) n ≡ count p n
unfolding total count
count_total p zero = refl
count_total p (suc n) = omega (arith, count_total p n)
