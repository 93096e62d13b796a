-- Sets of persons as tests, counting below a number, and lists of persons. Assumes nothing.
--     Set, Relation               a set, and a relation, of persons: the test that its members pass
--     u ∈ S, S ⊆ S', Apart S S'   member; part; no common member
--     Larger S S'                 S' contains S and somebody more
--     without S w                 S, but not the person w
--     minus S T, both_of S T      those of S that are not in T; those of S and those of T
--     bit b                       1 for true, 0 for false
--     count p n, total f n        how many numbers below n pass; the sum of f over the numbers below n
--     any p n                     does some number below n pass
--     times n f x                 f, n times, from x on
--     below n p                   the members of p below n
--     x among xs                  x stands in the list
--     any_of p xs, has v vs       does some element pass; does v stand in the list
--     Pairwise R xs               each element stands in R to all behind it
--     members p n                 the numbers below n that pass, rising
--     ListOf P vs                 vs is the list of those with the property P, rising
use Rattle.std.specs.Prelude.{◌≡◌, ℕ, zero, suc, ◌+◌, ◌<◌, Bool, true, false, not, ◌&&◌, ◌||◌, ◌⊎◌, List, [], ◌∷◌, filter, ◌==◌, nat_eq, nat_lt}
use Rattle.std.specs.List.{range_with_len, AllByRecursion}

infix 50 ◌∈◌
infix 50 ◌⊆◌
infix 50 ◌among◌
abbrev pub Set : Type 0
Set = ℕ → Bool

abbrev pub Relation : Type 0
Relation = ℕ → ℕ → Bool

abbrev pub ◌∈◌ : ℕ → Set → Type 0
u ∈ S = S u ≡ true

abbrev pub ◌⊆◌ : Set → Set → Type 0
S ⊆ S' = (u : ℕ) → u ∈ S → u ∈ S'

abbrev pub Apart : Set → Set → Type 0
Apart S S' = (v : ℕ) → v ∈ S → v ∈ S' → ⊥

abbrev pub Larger : Set → Set → Type 0
Larger S S' = (S ⊆ S') × ((v : ℕ) × (v ∈ S') × (S v ≡ false))

unfoldable pub without : Set → ℕ → Set
without S w v = S v && not (v == w)

unfoldable pub minus : Set → Set → Set
minus S T v = S v && not (T v)

unfoldable pub both_of : Set → Set → Set
both_of S T v = S v || T v

-- ---- numbers below n

abbrev pub bit : Bool → ℕ
bit true = 1
bit false = 0

unfoldable pub count : Set → ℕ → ℕ
count p zero = 0
count p (suc n) = bit (p n) + count p n

unfoldable pub total : (ℕ → ℕ) → ℕ → ℕ
total f zero = 0
total f (suc n) = f n + total f n

unfoldable pub any : Set → ℕ → Bool
any p zero = false
any p (suc n) = p n || any p n

unfoldable pub times : {A : Type 0} → ℕ → (A → A) → A → A
times zero f x = x
times (suc n) f x = times n f (f x)

unfoldable pub below : ℕ → Set → Set
below n p v = nat_lt v n && p v

-- ---- lists

abbrev pub ◌among◌ : {A : Type 0} → A → List A → Type 0
x among [] = ⊥
x among (y ∷ ys) = (x ≡ y) ⊎ (x among ys)

unfoldable pub any_of : {A : Type 0} → (A → Bool) → List A → Bool
any_of p [] = false
any_of p (x ∷ xs) = p x || any_of p xs

abbrev pub has : ℕ → List ℕ → Bool
has v vs = any_of (nat_eq v) vs

abbrev pub Pairwise : {A : Type 0} → (A → A → Type 0) → List A → Type 0
Pairwise R [] = Unit {0}
Pairwise R (x ∷ xs) = AllByRecursion (R x) xs × Pairwise R xs

abbrev pub members : Set → ℕ → List ℕ
members p n = filter p (range_with_len 0 n)

abbrev pub ListOf : (ℕ → Type 0) → List ℕ → Type 0
ListOf P vs = Pairwise (λ u v. u < v) vs × ((v : ℕ) → (v among vs → P v) × (P v → v among vs))
