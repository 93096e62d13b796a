-- A square of bits, one for each ordered pair of persons, row by row in whole bytes. Assumes nothing.
--     stride n                    the bytes of a row for n persons
--     place n u v                 the byte of the pair u, v
--     row_of n bits u             the bytes of u's row, none for nobody
--     bit_of x k                  the bit k of x, counted from the lowest
--     bit_at n bits u v           u and v are persons whose bit is set
--     near_in n bits u            the persons whose bit is set in u's row, rising
--     net_in n bits grades        the network that the bits mean
--     spare_at n bits u v         a bit of u's row past the last person is set
--     flipped n bits u v          the bit of u, v turned over
use Rattle.std.specs.Prelude.{ℕ, ◌+◌, ◌*◌, ◌/◌, ◌%◌, ◌^◌, Bool, cond, ◌&&◌, List, [], take, drop, filter, ◌==◌, bit_xor, nat_le, nat_lt, slice_index, slice_set}
use Rattle.std.specs.List.{range_with_len}
use Rattle.networks.specs.Net.{Net}

abbrev pub stride : ℕ → ℕ
stride n = (n + 7) / 8

abbrev pub place : ℕ → ℕ → ℕ → ℕ
place n u v = u * stride n + v / 8

abbrev pub row_of : ℕ → List ℕ → ℕ → List ℕ
row_of n bits u = cond (nat_lt u n) (take (stride n) (drop (u * stride n) bits)) []

abbrev pub bit_of : ℕ → ℕ → Bool
bit_of x k = (x / 2 ^ k) % 2 == 1

abbrev pub bit_at : ℕ → List ℕ → ℕ → ℕ → Bool
bit_at n bits u v = nat_lt u n && (nat_lt v n && bit_of (slice_index bits (place n u v)) (v % 8))

abbrev pub near_in : ℕ → List ℕ → ℕ → List ℕ
near_in n bits u = filter (bit_at n bits u) (range_with_len 0 n)

abbrev pub net_in : {G : Type 0} → ℕ → List ℕ → List G → Net G
net_in n bits grades = record { persons = n; grades = take n grades; linked = bit_at n bits }

abbrev pub spare_at : ℕ → List ℕ → ℕ → ℕ → Bool
spare_at n bits u v = (nat_lt u n && (nat_le n v && nat_lt v (8 * stride n))) && bit_of (slice_index bits (place n u v)) (v % 8)

abbrev pub flipped : ℕ → List ℕ → ℕ → ℕ → List ℕ
flipped n bits u v = slice_set bits (place n u v) (bit_xor (slice_index bits (place n u v)) (2 ^ (v % 8)))

-- both bits of a pair turned over
abbrev pub pair_flipped : ℕ → List ℕ → ℕ → ℕ → List ℕ
pair_flipped n bits u v = flipped n (flipped n bits u v) v u
