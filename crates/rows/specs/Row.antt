-- A row of numbers, and its place in a memory of rows. Assumes nothing.
--     has v xs                    v stands in xs
--     Tidy n xs                   xs is who stands in it, rising, and all are below n
--     place_of v xs               how many of xs are below v
--     row_of span counts cells u  the row of u: as many as its count, from the place u * span on
use Rattle.std.specs.Prelude.{◌≡◌, ℕ, ◌*◌, Bool, false, ◌||◌, List, [], ◌∷◌, length, take, drop, filter, ◌==◌, nat_lt, slice_index}
use Rattle.std.specs.List.{range_with_len}

abbrev pub has : ℕ → List ℕ → Bool
has v [] = false
has v (x ∷ xs) = v == x || has v xs

abbrev pub Tidy : ℕ → List ℕ → Type 0
Tidy n xs = xs ≡ filter (λ v. has v xs) (range_with_len 0 n)

abbrev pub place_of : ℕ → List ℕ → ℕ
place_of v xs = length (filter (λ x. nat_lt x v) xs)

abbrev pub row_of : ℕ → List ℕ → List ℕ → ℕ → List ℕ
row_of span counts cells u = take (slice_index counts u) (drop (u * span) cells)
