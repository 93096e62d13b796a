-- Who stands in a row, and at which place. Assumes nothing.
use Rattle.std.proofs.Common.{◌≡◌, ℕ, zero, suc, ◌<◌, ◌≤◌, Bool, true, false, cond, not, ◌||◌, eqb, ltb, List, [], ◌∷◌, length, get_or, filter, is_ok, Ok, Err, Result, MatchResult, nat_cmp, sym, refl, ap, ◌∙◌, inl, inr, arith}
use Rattle.std.specs.List.Sorted.{IsBinarySearchResult, IsNonDecreasingBy, IsStrictlyIncreasing}
use Rattle.std.proofs.lemmas.List.Filters.{length-filter_both}
use Rattle.std.proofs.lemmas.List.Kept.{AllPairs-from_increasing}
use Rattle.std.proofs.lemmas.List.Sorted.{searched, IsNonDecreasingBy-from_default}
use Rattle.std.proofs.lemmas.Bool.{cases_lt, eq-eqb, ne_eqb, lt-ltb, le-ltb, or_left, or_right, or_from}
use Rattle.std.proofs.lemmas.Bool.Decides.{nat_tests}
use Rattle.rows.specs.Row.{has, place_of}

pub has_at : (xs : List ℕ) (v k : ℕ) → k < length xs → get_or xs k 0 ≡ v → has v xs ≡ true
has_at [] v k h e = absurd (omega arith)
has_at (x ∷ xs) v zero h e = or_left (eqb v x) (has v xs) (eq-eqb v x (sym e))
has_at (x ∷ xs) v (suc k) h e = or_right (eqb v x) (has v xs) (has_at xs v k (omega arith) e)

pub has_none : (xs : List ℕ) (v : ℕ) → ((k : ℕ) → k < length xs → get_or xs k 0 ≡ v → ⊥) → has v xs ≡ false
has_none [] v none = refl
has_none (x ∷ xs) v none = or_from (eqb v x) (has v xs)
    (ne_eqb v x (λ e. none 0 (omega arith) (sym e)))
    (has_none xs v (λ k h. none (suc k) (omega arith)))

pub ordered : (xs : List ℕ) → IsStrictlyIncreasing xs → IsNonDecreasingBy (λ (x : ℕ). x) xs
ordered xs rising = IsNonDecreasingBy-from_default (λ (x : ℕ). x) xs 0 (λ i j le l. elim (cases_lt i j) [
  | inl less ↦ omega (arith, AllPairs-from_increasing xs rising i j 0 less l)
  | inr more ↦ (let e : i ≡ j = omega arith in omega (arith, ap (λ k. get_or xs k 0) e))
])

-- what a binary search in a rising row finds is whether v stands there
pub found_has : (xs : List ℕ) (v : ℕ) (r : Result ℕ ℕ) → IsBinarySearchResult (λ y. nat_cmp y v) xs r → IsStrictlyIncreasing xs → is_ok r ≡ has v xs
found_has xs v r search rising = sides r (searched xs v r search (λ i j le l. ordered xs rising i j 0 le l))
  where
    sides : (r : Result ℕ ℕ) → MatchResult r (λ i. (i < length xs) × (get_or xs i 0 ≡ v)) (λ i. (i ≤ length xs) × ((k : ℕ) → k < i → get_or xs k 0 < v) × ((k : ℕ) → i ≤ k → k < length xs → v < get_or xs k 0))
        → is_ok r ≡ has v xs
    sides (Ok i) h = sym (has_at xs v i h.0 h.1)
    sides (Err i) h = sym (has_none xs v (λ k l e. elim (cases_lt k i) [
      | inl less ↦ omega (arith, h.1 k less)
      | inr more ↦ omega (arith, h.2 k more l)
    ]))

-- all before r are below v, and none from r on
pub place_is : (xs : List ℕ) (v r : ℕ) → r ≤ length xs → ((k : ℕ) → k < r → get_or xs k 0 < v) → ((k : ℕ) → r ≤ k → k < length xs → v ≤ get_or xs k 0) → r ≡ place_of v xs
place_is [] v zero h below above = refl
place_is [] v (suc r) h below above = absurd (omega arith)
place_is (x ∷ xs) v zero h below above =
    place_is xs v 0 (omega arith) (λ k l. absurd (omega arith)) (λ k l m. above (suc k) (omega arith) (omega arith))
    ∙ ap (λ b. length (cond b (x ∷ filter (λ y. ltb y v) xs) (filter (λ y. ltb y v) xs))) (sym (le-ltb x v (above 0 (omega arith) (omega arith))))
place_is (x ∷ xs) v (suc r) h below above =
    ap suc (place_is xs v r (omega arith) (λ k l. below (suc k) (omega arith)) (λ k l m. above (suc k) (omega arith) (omega arith)))
    ∙ ap (λ b. length (cond b (x ∷ filter (λ y. ltb y v) xs) (filter (λ y. ltb y v) xs))) (sym (lt-ltb x v (below 0 (omega arith))))

pub place_within : (v : ℕ) (xs : List ℕ) → place_of v xs ≤ length xs
place_within v xs = omega (arith, length-filter_both (λ x. ltb x v) (λ x. not (ltb x v)) (λ _. refl) xs)

place_step : (v x k p n : ℕ) (b : Bool) (xs : List ℕ) → k ≡ length (filter (λ y. ltb y v) xs) → n ≡ length xs → (b ≡ true → k < n) → k ≤ n → (eqb v x || b) ≡ true
    → length (cond (ltb x v) (x ∷ filter (λ y. ltb y v) xs) (filter (λ y. ltb y v) xs)) < suc n
place_step v x k p n b xs e f less within h = grind (arith, nat_tests)

-- one who stands in a row has a place in it
pub placed : (v : ℕ) (xs : List ℕ) → has v xs ≡ true → place_of v xs < length xs
placed v [] h = absurd (cc)
placed v (x ∷ xs) h = place_step v x (place_of v xs) 0 (length xs) (has v xs) xs refl refl (placed v xs) (place_within v xs) h
