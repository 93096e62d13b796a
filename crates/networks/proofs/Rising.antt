-- The numbers below n that pass a test, in order: what neighbours are. Assumes nothing.
use Rattle.std.proofs.Common.{◌≡◌, ℕ, zero, suc, ◌+◌, ◌-◌, ◌<◌, ◌≤◌, Bool, true, false, cond, List, [], ◌∷◌, ◌++◌, length, get_or, take, set, Some, None, filter, Option, refl, ap, ◌∙◌, inl, inr, arith}
use Rattle.std.specs.List.{slice_get, range_with_len, AllByRecursion}
use Rattle.std.proofs.lemmas.List.FromFn.{length-range_with_len}
use Rattle.std.proofs.lemmas.List.Sums.{length-filter, count_by-le-length}
use Rattle.std.proofs.lemmas.List.Elements.{filter-append}
use Rattle.std.proofs.ByRecursion.{All-get_or, all_kept_by}
use Rattle.std.proofs.lemmas.List.{append-nil, length-append}
use Rattle.std.proofs.lemmas.Grind.{common_steps}
use Rattle.std.proofs.lemmas.Option.{slice_get-get_or}
use Rattle.std.proofs.lemmas.Bool.{cases_lt}

all_counting : (a n m : ℕ) → a + n ≤ m → AllByRecursion (λ x. x < m) (range_with_len a n)
all_counting a zero m h = tt
all_counting a (suc n) m h = (omega arith, all_counting (a + 1) n m (omega arith))

pub all_kept : (p : ℕ → Bool) (n : ℕ) → AllByRecursion (λ x. x < n) (filter p (range_with_len 0 n))
all_kept p n = all_kept_by p (λ x. x < n) (range_with_len 0 n) (all_counting 0 n n (omega arith))

-- each of them is below n
pub kept_below : (p : ℕ → Bool) (n i d : ℕ) → i < length (filter p (range_with_len 0 n)) → get_or (filter p (range_with_len 0 n)) i d < n
kept_below p n i d h = All-get_or (λ x. x < n) (filter p (range_with_len 0 n)) i d h (all_kept p n)

-- what the place i of a list holds, where it holds something
pub nth_some : {X : Type 0} (xs : List X) (i : ℕ) (v : X) (r : Option X) → r ≡ slice_get xs i → r ≡ Some v → i < length xs → v ≡ get_or xs i v
nth_some xs i v r e f h = let n = slice_get-get_or xs i v h in cc

pub nth_none : {X : Type 0} (xs : List X) (i : ℕ) (r : Option X) → r ≡ slice_get xs i → r ≡ None → i < length xs → X → ⊥
nth_none xs i r e f h d = let n = slice_get-get_or xs i d h in cc

-- a place more of a row filled with what the list holds there
pub nth_next : {X : Type 0} (xs ys : List X) (i : ℕ) (v : X) → i < length xs → i < length ys → v ≡ get_or xs i v → take i ys ≡ take i xs → take (i + 1) (set ys i v) ≡ take (i + 1) xs
nth_next xs ys i v h l e t = grind (arith, common_steps)

pub counting_append : (a n m : ℕ) → range_with_len a (n + m) ≡ range_with_len a n ++ range_with_len (a + n) m
counting_append a zero m = let e : 0 + m ≡ m = omega arith in let f : a ≡ a + 0 = omega arith in ap (range_with_len a) e ∙ ap (λ t. range_with_len t m) f
counting_append a (suc n) m =
    let e : suc n + m ≡ suc (n + m) = omega arith in
    let f : (a + 1) + n ≡ a + suc n = omega arith in
    ap (range_with_len a) e ∙ ap (λ t. a ∷ t) (counting_append (a + 1) n m ∙ ap (λ t. range_with_len (a + 1) n ++ range_with_len t m) f)

pub kept_append : (p : ℕ → Bool) (n m : ℕ) → filter p (range_with_len 0 (n + m)) ≡ filter p (range_with_len 0 n) ++ filter p (range_with_len n m)
kept_append p n m =
    let e : 0 + n ≡ n = omega arith in
    ap (filter p) (counting_append 0 n m ∙ ap (λ a. range_with_len 0 n ++ range_with_len a m) e) ∙ filter-append p (range_with_len 0 n) (range_with_len n m)

-- one number more, which fails
pub kept_same : (p : ℕ → Bool) (n : ℕ) → p n ≡ false → filter p (range_with_len 0 (n + 1)) ≡ filter p (range_with_len 0 n)
kept_same p n h = kept_append p n 1 ∙ ap (λ b. filter p (range_with_len 0 n) ++ cond b (n ∷ []) []) h ∙ append-nil (filter p (range_with_len 0 n))

pub kept_none : (p : ℕ → Bool) (a n : ℕ) → ((v : ℕ) → a ≤ v → p v ≡ false) → filter p (range_with_len a n) ≡ []
kept_none p a zero h = refl
kept_none p a (suc n) h =
    ap (λ b. cond b (a ∷ filter p (range_with_len (a + 1) n)) (filter p (range_with_len (a + 1) n))) (h a (omega arith)) ∙ kept_none p (a + 1) n (λ v l. h v (omega arith))

-- numbers from n on that all fail add nothing
pub kept_past : (p : ℕ → Bool) (n m : ℕ) → n ≤ m → ((v : ℕ) → n ≤ v → p v ≡ false) → filter p (range_with_len 0 m) ≡ filter p (range_with_len 0 n)
kept_past p n m l h =
    let e : m ≡ n + (m - n) = omega arith in
    ap (λ t. filter p (range_with_len 0 t)) e ∙ kept_append p n (m - n) ∙ ap (λ t. filter p (range_with_len 0 n) ++ t) (kept_none p n (m - n) h) ∙ append-nil (filter p (range_with_len 0 n))

nth_at : (xs : List ℕ) (v : ℕ) (ys : List ℕ) → slice_get (xs ++ v ∷ ys) (length xs) ≡ Some v
nth_at [] v ys = refl
nth_at (x ∷ xs) v ys = nth_at xs v ys

-- a number that passes stands behind the smaller ones that do
pub kept_at : (p : ℕ → Bool) (n v i : ℕ) → v < n → p v ≡ true → i ≡ length (filter p (range_with_len 0 v)) → slice_get (filter p (range_with_len 0 n)) i ≡ Some v
kept_at p n v i h t e =
    let rest = n - (v + 1) in
    let split : n ≡ v + suc rest = omega arith in
    let front = filter p (range_with_len 0 v) in
    let kept : filter p (range_with_len 0 n) ≡ front ++ v ∷ filter p (range_with_len (v + 1) rest) =
    ap (λ m. filter p (range_with_len 0 m)) split ∙ kept_append p v (suc rest)
    ∙ ap (λ b. front ++ cond b (v ∷ filter p (range_with_len (v + 1) rest)) (filter p (range_with_len (v + 1) rest))) t in
    ap (slice_get (filter p (range_with_len 0 n))) e ∙ ap (λ l. slice_get l (length front)) kept ∙ nth_at front v (filter p (range_with_len (v + 1) rest))

pub kept_few : (p : ℕ → Bool) (a n : ℕ) → length (filter p (range_with_len a n)) ≤ n
kept_few p a n = omega (arith, length-filter p (range_with_len a n), count_by-le-length p (range_with_len a n), length-range_with_len a n)

-- one number that fails is not among them, nor are two
kept_miss : (p : ℕ → Bool) (a n u : ℕ) → a ≤ u → u < a + n → p u ≡ false → length (filter p (range_with_len a n)) + 1 ≤ n
kept_miss p a n u l h f =
    let k = u - a in
    let rest = n - (k + 1) in
    let front = filter p (range_with_len a k) in
    let back = filter p (range_with_len (u + 1) rest) in
    let size : n ≡ k + suc rest = omega arith in
    let here : a + k ≡ u = omega arith in
    let cut = ap (range_with_len a) size ∙ counting_append a k (suc rest) ∙ ap (λ t. range_with_len a k ++ range_with_len t (suc rest)) here in
    let kept = ap (filter p) cut ∙ filter-append p (range_with_len a k) (u ∷ range_with_len (u + 1) rest) ∙ ap (λ b. front ++ cond b (u ∷ back) back) f in
    omega (arith, ap length kept, length-append front back, kept_few p a k, kept_few p (u + 1) rest)

pub kept_misses : (p : ℕ → Bool) (n u v : ℕ) → u < n → v < n → (u ≡ v → ⊥) → p u ≡ false → p v ≡ false → length (filter p (range_with_len 0 n)) + 2 ≤ n
kept_misses p n u v a b ne f g = elim (cases_lt u v) [ inl l ↦ go u v l b f g | inr l ↦ go v u (omega arith) a g f ]
  where
    go : (u v : ℕ) → u < v → v < n → p u ≡ false → p v ≡ false → length (filter p (range_with_len 0 n)) + 2 ≤ n
    go u v l b f g =
        let m = n - (u + 1) in
        let e : n ≡ u + 1 + m = omega arith in
        let cut = ap length (ap (λ t. filter p (range_with_len 0 t)) e ∙ kept_append p (u + 1) m ∙ ap (λ t. t ++ filter p (range_with_len (u + 1) m)) (kept_same p u f))
        ∙ length-append (filter p (range_with_len 0 u)) (filter p (range_with_len (u + 1) m)) in
        let front = kept_few p 0 u in
        let back = kept_miss p (u + 1) m v (omega arith) (omega arith) g in
        omega arith
