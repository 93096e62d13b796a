-- A row moved up by one place. Assumes nothing.
use Rattle.std.proofs.Common.{◌≡◌, ℕ, ◌+◌, ◌-◌, ◌<◌, ◌≤◌, List, [], ◌∷◌, ◌++◌, length, get_or, take, drop, set, sym, ap, ◌∙◌, ap₂, arith}
use Rattle.std.specs.List.{insert, copy_within}
use Rattle.std.proofs.lemmas.List.{append-nil, append_assoc, drop-take, drop_all, length-take-le, set_at, take-take, take_more}

-- those from `at` on moved up by one place, and v written there
pub pasted_up : (xs : List ℕ) (at v : ℕ) → at < length xs → set (copy_within xs at (length xs - 1) (at + 1)) at v ≡ insert (take (length xs - 1) xs) at v
pasted_up xs at v h =
    let last = length xs - 1 in
    let n : at + (last - at) ≡ last = omega arith in
    let past : length xs ≤ at + 1 + (last - at) = omega arith in
    let moved = take (last - at) (drop at xs) in
    let none : drop (at + 1 + (last - at)) xs ≡ [] = drop_all (at + 1 + (last - at)) xs past in
    ap (λ t. set ((take (at + 1) xs ++ moved) ++ t) at v) none
    ∙ ap (λ t. set t at v) (append-nil (take (at + 1) xs ++ moved))
    ∙ ap (λ t. set (t ++ moved) at v) (take_more xs at 0 h)
    ∙ ap (λ t. set t at v) (append_assoc (take at xs) (get_or xs at 0 ∷ []) moved)
    ∙ set_at (take at xs) (get_or xs at 0) moved v at (length-take-le at xs (omega arith))
    ∙ sym (ap₂ (λ a b. a ++ v ∷ b) (take-take at last xs (omega arith)) (ap (λ k. drop at (take k xs)) (sym n) ∙ drop-take at (last - at) xs))
