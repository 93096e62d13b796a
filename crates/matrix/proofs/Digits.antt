-- The set bits of a word, one at a time from the lowest. Assumes nothing.
use Rattle.std.proofs.Common.{◌≡◌, ℕ, zero, suc, ◌+◌, ◌-◌, ◌*◌, ◌/◌, ◌%◌, ◌^◌, ◌<◌, ◌≤◌, cond, eqb, [], ◌∷◌, length, get_or, drop, sym, refl, ap, ◌∙◌, ap₂, inl, inr, pow-suc, arith}
use lib.Bits.{bit_and, and_step, and_self}
use lib.Count.{count_trailing_zeros, ones, ones_step, ones-le, under}
use Rattle.std.proofs.lemmas.Bool.{cases_eq}
use Rattle.std.proofs.lemmas.List.{drop_more, length-drop}
use Rattle.matrix.specs.Words.{set_bits}

-- without its lowest set bit, by the parity of the word
lowest_even : (w : ℕ) → 0 < w → w % 2 ≡ 0 → bit_and w (w - 1) ≡ 2 * bit_and (w / 2) (w / 2 - 1)
lowest_even w p e =
    let a : (w - 1) / 2 ≡ w / 2 - 1 = omega arith in
    let b = ap (bit_and (w / 2)) a in
    let s = and_step w (w - 1) in
    omega arith

lowest_odd : (w : ℕ) → w % 2 ≡ 1 → bit_and w (w - 1) ≡ 2 * (w / 2)
lowest_odd w e =
    let a : (w - 1) / 2 ≡ w / 2 = omega arith in
    let b = ap (bit_and (w / 2)) a ∙ and_self (w / 2) in
    let s = and_step w (w - 1) in
    omega arith

set_even : (m from w : ℕ) → w % 2 ≡ 0 → set_bits (suc m) from w ≡ set_bits m (from + 1) (w / 2)
unfolding set_bits
set_even m from w e = ap (λ d. cond (eqb d 1) (from ∷ set_bits m (from + 1) (w / 2)) (set_bits m (from + 1) (w / 2))) e

set_odd : (m from w : ℕ) → w % 2 ≡ 1 → set_bits (suc m) from w ≡ from ∷ set_bits m (from + 1) (w / 2)
unfolding set_bits
set_odd m from w e = ap (λ d. cond (eqb d 1) (from ∷ set_bits m (from + 1) (w / 2)) (set_bits m (from + 1) (w / 2))) e

-- of a doubled word
set_double : (m from x : ℕ) → set_bits (suc m) from (2 * x) ≡ set_bits m (from + 1) x
set_double m from x =
    let e : 2 * x % 2 ≡ 0 = omega arith in
    let h : 2 * x / 2 ≡ x = omega arith in
    set_even m from (2 * x) e ∙ ap (set_bits m (from + 1)) h

trailing_even : (k w : ℕ) → w % 2 ≡ 0 → count_trailing_zeros (suc k) w ≡ suc (count_trailing_zeros k (w / 2))
unfolding count_trailing_zeros
trailing_even k w e = ap (λ d. under d (count_trailing_zeros k (w / 2))) e

trailing_odd : (k w : ℕ) → w % 2 ≡ 1 → count_trailing_zeros (suc k) w ≡ 0
unfolding count_trailing_zeros
trailing_odd k w e = ap (λ d. under d (count_trailing_zeros k (w / 2))) e

-- the lowest set bit comes first, and the rest are those of the word without it
pub first_bit : (m k from w : ℕ) → 0 < w → w < 2 ^ m → m ≤ k → set_bits m from w ≡ (from + count_trailing_zeros k w) ∷ set_bits m from (bit_and w (w - 1))
first_bit zero k from w p h l = absurd (omega arith)
first_bit (suc m) zero from w p h l = absurd (omega arith)
first_bit (suc m) (suc k) from w p h l = elim (cases_eq (w % 2) 1) [
  | inl odd ↦ (
      let here : from ≡ from + count_trailing_zeros (suc k) w = omega (arith, trailing_odd k w odd) in
      set_odd m from w odd
      ∙ ap₂ (λ a t. a ∷ t) here (sym (set_double m from (w / 2)) ∙ ap (set_bits (suc m) from) (sym (lowest_odd w odd))))
  | inr ne ↦ (
      let even : w % 2 ≡ 0 = omega arith in
      let small : w / 2 < 2 ^ m = omega (arith, pow-suc 2 m) in
      let here : from + 1 + count_trailing_zeros k (w / 2) ≡ from + count_trailing_zeros (suc k) w = omega (arith, trailing_even k w even) in
      set_even m from w even
      ∙ first_bit m k (from + 1) (w / 2) (omega arith) small (omega arith)
      ∙ ap₂ (λ a t. a ∷ t) here (sym (set_double m from (bit_and (w / 2) (w / 2 - 1))) ∙ ap (set_bits (suc m) from) (sym (lowest_even w p even))))
]

pub no_bits : (m from : ℕ) → set_bits m from 0 ≡ []
unfolding set_bits
no_bits zero from = refl
no_bits (suc m) from = no_bits m (from + 1)

-- how many they are
pub ones_set : (m from w : ℕ) → w < 2 ^ m → ones w ≡ length (set_bits m from w)
unfolding set_bits ones
ones_set zero from w h = let none : w ≡ 0 = omega arith in ap ones none
ones_set (suc m) from w h =
    let small : w / 2 < 2 ^ m = omega (arith, pow-suc 2 m) in
    let rest = ones_set m (from + 1) (w / 2) small in
    let here = ones_step w in
    elim (cases_eq (w % 2) 1) [
      | inl odd ↦ omega (arith, ap length (set_odd m from w odd))
      | inr ne ↦ (let even : w % 2 ≡ 0 = omega arith in omega (arith, ap length (set_even m from w even)))
    ]

pub bits_few : (from w : ℕ) → w < 2 ^ 64 → length (set_bits 64 from w) ≤ 64
bits_few from w h = omega (arith, ones_set 64 from w h, ones-le 64 w h)

-- a word of which the bits from the place i on are left: it is not 0, its lowest is the one there, and without it those behind are left
pub left_some : (from w left i : ℕ) → w < 2 ^ 64 → i < ones w → set_bits 64 from left ≡ drop i (set_bits 64 from w) → 0 < left
left_some from w zero i h l e = omega (arith, ones_set 64 from w h, ap length (sym e ∙ no_bits 64 from), length-drop i (set_bits 64 from w))
left_some from w (suc left) i h l e = omega arith

pub left_next : (from w left i : ℕ) → w < 2 ^ 64 → left < 2 ^ 64 → i < ones w → set_bits 64 from left ≡ drop i (set_bits 64 from w)
    → let v = from + count_trailing_zeros 64 left in (v ≡ get_or (set_bits 64 from w) i v) × (set_bits 64 from (bit_and left (left - 1)) ≡ drop (i + 1) (set_bits 64 from w))
left_next from w left i h small l e =
    let v = from + count_trailing_zeros 64 left in
    let all = set_bits 64 from w in
    let short : i < length all = omega (arith, ones_set 64 from w h) in
    let split = sym (first_bit 64 64 from left (left_some from w left i h l e) small (omega arith)) ∙ e ∙ drop_more all i v short in
    (cc, cc)
