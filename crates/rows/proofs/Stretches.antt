-- The stretch of memory that a row may take. Assumes nothing.
use Rattle.std.proofs.Common.{◌≡◌, ℕ, ◌+◌, ◌-◌, ◌*◌, ◌^◌, ◌<◌, ◌≤◌, List, take, drop, ap, add-mul, one-mul, arith}
use Rattle.std.proofs.lemmas.Nat.{mul-le}

-- one row ends before the next begins
pub row_ends : (u w span : ℕ) → u < w → u * span + span ≤ w * span
row_ends u w span h = omega (arith, mul-le (u + 1) span w span (omega arith) (omega arith), add-mul u 1 span, one-mul span)

pub first_small : (u n span : ℕ) → u < n → n ≤ 4096 → span ≤ 4095 → u * span < 2 ^ 32
first_small u n span h few narrow = omega (arith, mul-le u span 4096 4095 (omega arith) narrow)

-- the part of the memory from `first` on, as a slice has it
pub part_is : (cells : List ℕ) (first count : ℕ) → take (first + count - first) (drop first cells) ≡ take count (drop first cells)
part_is cells first count = let e : first + count - first ≡ count = omega arith in ap (λ k. take k (drop first cells)) e
