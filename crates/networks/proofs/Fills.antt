-- A row whose front is filled, and a write among its first places. Assumes nothing.
use Rattle.std.proofs.Common.{◌≡◌, ℕ, zero, suc, ◌+◌, ◌<◌, ◌≤◌, min, List, [], ◌∷◌, ◌++◌, length, get_or, take, drop, set, replicate, sym, refl, ap, ◌∙◌, ap₂, inl, inr, append_assoc, arith}
use Rattle.std.proofs.lemmas.List.{drop_more, drop_all, set_at, replicate_more, length-append, length-drop, length-replicate, get_or_append_left, get_or-replicate}
use Rattle.std.proofs.lemmas.Bool.{cases_lt}
use Rattle.networks.specs.Places.{filled}

pub filled_none : {X : Type 0} (x : X) (xs : List X) → filled 0 x xs ≡ xs
filled_none x xs = let e : min 0 (length xs) ≡ 0 = omega arith in ap (λ k. replicate k x ++ xs) e

pub filled_more : {X : Type 0} (x : X) (xs : List X) (i : ℕ) → i < length xs → set (filled i x xs) i x ≡ filled (i + 1) x xs
filled_more x xs i h =
    let a : min i (length xs) ≡ i = omega arith in
    let b : min (i + 1) (length xs) ≡ i + 1 = omega arith in
    ap (λ k. set (replicate k x ++ drop i xs) i x) a
    ∙ ap (λ t. set (replicate i x ++ t) i x) (drop_more xs i x h)
    ∙ set_at (replicate i x) (get_or xs i x) (drop (i + 1) xs) x i (length-replicate i x)
    ∙ sym (append_assoc (replicate i x) (x ∷ []) (drop (i + 1) xs))
    ∙ ap (λ t. t ++ drop (i + 1) xs) (replicate_more i x)
    ∙ ap (λ k. replicate k x ++ drop (i + 1) xs) (sym b)

-- past the end nothing is filled
pub filled_all : {X : Type 0} (x : X) (xs : List X) (n i : ℕ) → i ≡ min n (length xs) → filled i x xs ≡ filled n x xs
filled_all x xs n i e = elim (cases_lt n (length xs)) [
  | inl h ↦ (let f : i ≡ n = omega arith in ap (λ k. filled k x xs) f)
  | inr h ↦ (
      let f : min i (length xs) ≡ min n (length xs) = omega arith in
      ap₂ (λ k t. replicate k x ++ t) f (drop_all i xs (omega arith) ∙ sym (drop_all n xs h)))
]

pub length_filled : {X : Type 0} (n : ℕ) (x : X) (xs : List X) → length (filled n x xs) ≡ length xs
length_filled n x xs = omega (arith, length-append (replicate (min n (length xs)) x) (drop n xs), length-replicate (min n (length xs)) x, length-drop n xs)

pub get_d_filled : {X : Type 0} (n : ℕ) (x : X) (xs : List X) (i : ℕ) (d : X) → i < n → n ≤ length xs → get_or (filled n x xs) i d ≡ x
get_d_filled n x xs i d h l =
    let m : i < min n (length xs) = omega arith in
    get_or_append_left (replicate (min n (length xs)) x) (drop n xs) d i (omega (arith, length-replicate (min n (length xs)) x)) ∙ get_or-replicate (min n (length xs)) i x d m

-- a write among the first n, or behind them
pub take_set_in : {X : Type 0} (n : ℕ) (xs : List X) (i : ℕ) (x : X) → take n (set xs i x) ≡ set (take n xs) i x
take_set_in zero xs i x = refl
take_set_in (suc n) [] i x = refl
take_set_in (suc n) (y ∷ xs) zero x = refl
take_set_in (suc n) (y ∷ xs) (suc i) x = ap (λ t. y ∷ t) (take_set_in n xs i x)
