-- The numbers below n that pass a test, in order. Assumes nothing.
use Rattle.std.proofs.Common.{◌≡◌, ℕ, zero, suc, ◌+◌, ◌-◌, ◌<◌, ◌≤◌, Bool, true, false, cond, ◌&&◌, ◌||◌, eqb, leb, ltb, List, [], ◌∷◌, ◌++◌, length, filter, refl, ap, ◌∙◌, ap₂, inl, inr, zero-add, arith}
use Rattle.std.specs.List.{range_with_len}
use Rattle.std.specs.List.Sorted.{IsStrictlyIncreasing}
use Rattle.std.proofs.lemmas.List.FromFn.{length-range_with_len, get_or-range_with_len}
use Rattle.std.proofs.lemmas.List.Kept.{IsStrictlyIncreasing-filter}
use Rattle.std.proofs.lemmas.Bool.{and_right, cases_eq, le-ltb, lt-ltb}
use Rattle.std.proofs.lemmas.Bool.Decides.{nat_tests}
use Rattle.networks.proofs.Rising.{counting_append, kept_past}
use Rattle.rows.specs.Row.{has, place_of}

pub counting_around : (n v : ℕ) → v < n → range_with_len 0 n ≡ range_with_len 0 v ++ v ∷ range_with_len (v + 1) (n - (v + 1))
counting_around n v h =
    let e : n ≡ v + suc (n - (v + 1)) = omega arith in
    ap (range_with_len 0) e ∙ counting_append 0 v (suc (n - (v + 1))) ∙ ap (λ t. range_with_len 0 v ++ t ∷ range_with_len (t + 1) (n - (v + 1))) (zero-add v)

counting_step : (a n v : ℕ) (b : Bool) → b ≡ (leb (a + 1) v && ltb v (a + 1 + n)) → (eqb v a || b) ≡ (leb a v && ltb v (a + suc n))
counting_step a n v b e = grind (arith, nat_tests)

has_counting : (a n v : ℕ) → has v (range_with_len a n) ≡ (leb a v && ltb v (a + n))
has_counting a zero v = grind (arith, nat_tests)
has_counting a (suc n) v = counting_step a n v _ (has_counting (a + 1) n v)

-- who stands among them
has_kept_by : (p : ℕ → Bool) (xs : List ℕ) (v : ℕ) → has v (filter p xs) ≡ (has v xs && p v)
has_kept_by p [] v = refl
has_kept_by p (x ∷ xs) v =
    let rest = has_kept_by p xs v in
    elim (cases_eq v x) [
      | inl e ↦ (let same = ap p e in elim (p x) as (λ b. (p v ≡ b) → has v (cond b (x ∷ filter p xs) (filter p xs)) ≡ ((eqb v x || has v xs) && p v)) [
        | true ↦ λ s. grind (arith, nat_tests)
        | false ↦ λ s. grind (arith, nat_tests)
      ] same)
      | inr ne ↦ elim (p x) as (λ b. has v (cond b (x ∷ filter p xs) (filter p xs)) ≡ ((eqb v x || has v xs) && p v)) [
        | true ↦ grind (arith, nat_tests)
        | false ↦ grind (arith, nat_tests)
      ]
    ]

below_is : (n v : ℕ) → (leb 0 v && ltb v (0 + n)) ≡ ltb v n
below_is n v = grind (arith, nat_tests)

-- who stands among them
pub has_kept : (p : ℕ → Bool) (n v : ℕ) → has v (filter p (range_with_len 0 n)) ≡ (ltb v n && p v)
has_kept p n v = has_kept_by p (range_with_len 0 n) v ∙ ap (λ t. t && p v) (has_counting 0 n v ∙ below_is n v)

-- two tests that agree from a on, as far as the numbers go
pub kept_agree : (p q : ℕ → Bool) (a m : ℕ) → ((x : ℕ) → a ≤ x → x < a + m → p x ≡ q x) → filter p (range_with_len a m) ≡ filter q (range_with_len a m)
kept_agree p q a zero h = refl
kept_agree p q a (suc m) h = ap₂ (λ b t. cond b (a ∷ t) t) (h a (omega arith) (omega arith)) (kept_agree p q (a + 1) m (λ x l k. h x (omega arith) (omega arith)))

pub kept_rising : (p : ℕ → Bool) (n : ℕ) → IsStrictlyIncreasing (filter p (range_with_len 0 n))
kept_rising p n = IsStrictlyIncreasing-filter p (range_with_len 0 n)
    (λ k h. let l = length-range_with_len 0 n in omega (arith, get_or-range_with_len 0 n k 0 (omega arith), get_or-range_with_len 0 n (k + 1) 0 (omega arith)))

and_true : (b : Bool) → (b && true) ≡ b
and_true true = refl
and_true false = refl

filter_both : (p q : ℕ → Bool) (xs : List ℕ) → filter q (filter p xs) ≡ filter (λ x. p x && q x) xs
filter_both p q [] = refl
filter_both p q (x ∷ xs) = elim (p x) as (λ b. filter q (cond b (x ∷ filter p xs) (filter p xs)) ≡ cond (b && q x) (x ∷ filter (λ y. p y && q y) xs) (filter (λ y. p y && q y) xs)) [
  | true ↦ ap (λ t. cond (q x) (x ∷ t) t) (filter_both p q xs)
  | false ↦ filter_both p q xs
]

-- how many of them are below v
pub place_kept : (p : ℕ → Bool) (n v : ℕ) → v < n → place_of v (filter p (range_with_len 0 n)) ≡ length (filter p (range_with_len 0 v))
place_kept p n v h =
    let q : ℕ → Bool = λ x. p x && ltb x v in
    ap length (filter_both p (λ x. ltb x v) (range_with_len 0 n)
    ∙ kept_past q v n (omega arith) (λ w l. and_right (p w) (ltb w v) (le-ltb w v l))
    ∙ kept_agree q p 0 v (λ x l k. ap (λ b. p x && b) (lt-ltb x v (omega arith)) ∙ and_true (p x)))
