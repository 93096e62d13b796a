-- A square whose rows are cleared, or that has no rows, holds no link. Assumes nothing.
use Rattle.std.proofs.Common.{◌≡◌, ℕ, ◌*◌, ◌/◌, ◌%◌, ◌<◌, ◌≤◌, Bool, false, List, [], ◌∷◌, length, get_or, take, None, sym, ap, ◌∙◌, arith}
use mathlib.Core.Path.{fun_ext}
use Rattle.std.proofs.lemmas.Bool.Decides.{nat_tests}
use Rattle.networks.specs.Fixed.{opened}
use Rattle.networks.specs.Net.{Net}
use Rattle.networks.specs.Places.{filled}
use Rattle.networks.proofs.Fills.{length_filled, get_d_filled}
use Rattle.matrix.specs.Bits.{stride, place, bit_of, bit_at, spare_at, net_in}
use Rattle.matrix.specs.Memory.{refusal_for}
use Rattle.matrix.proofs.Bytes.{no_bit}
use Rattle.matrix.proofs.Pairs.{Kept}
use Rattle.matrix.proofs.Squares.{place_lt}

-- no bit of the rows is set
abbrev Blank : ℕ → List ℕ → Type 0
Blank n bits = (u v : ℕ) → u < n → v / 8 < stride n → bit_of (get_or bits (place n u v) 0) (v % 8) ≡ false

module _ (n : ℕ) (bits : List ℕ) (blank : Blank n bits) where
  no_link : (u v : ℕ) → bit_at n bits u v ≡ false
  no_link u v = grind (arith, nat_tests, blank u v)

  no_spare : (u v : ℕ) → spare_at n bits u v ≡ false
  no_spare u v = grind (arith, nat_tests, blank u v)

  blank_keeps : n * stride n ≤ length bits → Kept n bits
  blank_keeps room = record { room = room; mirror = λ x y. no_link x y ∙ sym (no_link y x); apart = λ x. no_link x x; spare = no_spare }

  blank_net : {G : Type 0} (grades : List G) → net_in n bits grades ≡ opened n grades
  blank_net {G} grades =
      let of : (ℕ → ℕ → Bool) → Net G = λ f. record { persons = n; grades = take n grades; linked = f } in
      ap of (fun_ext (λ u. fun_ext (λ v. no_link u v)))

pub none_keeps : (bits : List ℕ) → Kept 0 bits
none_keeps bits = blank_keeps 0 bits (λ u v a b. absurd (omega arith)) (omega arith)

filled_blank : (n : ℕ) (bits : List ℕ) → n * stride n ≤ length bits → Blank n (filled (n * stride n) 0 bits)
filled_blank n bits room u v a b = ap (λ t. bit_of t (v % 8)) (get_d_filled (n * stride n) 0 bits (place n u v) 0 (place_lt n u v a b) room) ∙ no_bit (v % 8)

module _ (n : ℕ) (bits : List ℕ) (room : n * stride n ≤ length bits) where
  pub cleared_keeps : Kept n (filled (n * stride n) 0 bits)
  cleared_keeps = blank_keeps n (filled (n * stride n) 0 bits) (filled_blank n bits room) (omega (arith, length_filled (n * stride n) 0 bits))

  pub cleared_net : {G : Type 0} (grades : List G) → net_in n (filled (n * stride n) 0 bits) grades ≡ opened n grades
  cleared_net grades = blank_net n (filled (n * stride n) 0 bits) (filled_blank n bits room) grades

-- what the check makes sure of
pub room_for : (n bits grades : ℕ) → refusal_for n (bits ∷ grades ∷ []) ≡ None → (n ≤ 4096) × (n * stride n ≤ bits) × (n ≤ grades)
room_for n bits grades h = (grind (arith, nat_tests), grind (arith, nat_tests), grind (arith, nat_tests))
