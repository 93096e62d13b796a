-- A row read by words of 64 bits. Assumes nothing.
--     set_bits m from w           the places of the set bits among the lowest m of w, rising, counted from `from`
use Rattle.std.specs.Prelude.{ℕ, zero, suc, ◌+◌, ◌/◌, ◌%◌, cond, List, [], ◌∷◌, ◌==◌}

unfoldable pub set_bits : ℕ → ℕ → ℕ → List ℕ
set_bits zero from w = []
set_bits (suc m) from w = cond (w % 2 == 1) (from ∷ set_bits m (from + 1) (w / 2)) (set_bits m (from + 1) (w / 2))
