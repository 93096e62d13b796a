-- What rounds of a function keep, and when they come to rest.
use Rattle.std.proofs.Common.{◌≡◌, ℕ, zero, suc, ◌<◌, ◌≤◌, ◌⊎◌, refl, inl, inr, arith}
use Rattle.theory.specs.Sets.{times}

-- a fact that each round keeps
pub times_keeps : {A : Type 0} (P : A → Type 0) (f : A → A) → ((x : A) → P x → P (f x)) → (n : ℕ) (x : A) → P x → P (times n f x)
unfolding times
times_keeps P f keep zero x h = h
times_keeps P f keep (suc n) x h = times_keeps P f keep n (f x) (keep x h)

pub times_still : {A : Type 0} (f : A → A) (n : ℕ) (x : A) → f x ≡ x → times n f x ≡ x
unfolding times
times_still f zero x e = refl
times_still f (suc n) x e = rw e (times_still f n x e)

-- rounds that each change nothing or lower a number come to rest
pub times_rest : {A : Type 0} (P : A → Type 0) (f : A → A) (size : A → ℕ) → ((x : A) → P x → P (f x)) → ((x : A) → P x → (f x ≡ x) ⊎ (size (f x) < size x)) → (n : ℕ) (x : A) → P x → size x ≤ n → f (times n f x) ≡ times n f x
unfolding times
times_rest P f size keep falls zero x h l = go (falls x h)
  where
    go : (f x ≡ x) ⊎ (size (f x) < size x) → f x ≡ x
    go (inl e) = e
    go (inr c) = absurd (omega arith)
times_rest P f size keep falls (suc n) x h l = go (falls x h) (times_rest P f size keep falls n (f x) (keep x h))
  where
    go : (f x ≡ x) ⊎ (size (f x) < size x) → (size (f x) ≤ n → f (times n f (f x)) ≡ times n f (f x)) → f (times n f (f x)) ≡ times n f (f x)
    go (inl e) ih = rw (e, times_still f n x e) e
    go (inr c) ih = ih (omega arith)
