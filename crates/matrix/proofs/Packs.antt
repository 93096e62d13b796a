-- The bytes of the square are those of the network that it means. Assumes nothing.
use Rattle.std.proofs.Common.{◌≡◌, ℕ, zero, suc, ◌+◌, ◌*◌, ◌/◌, ◌%◌, ◌<◌, ◌≤◌, Bool, false, eqb, List, ◌++◌, length, get_or, take, drop, sym, ap, ◌∙◌, ap₂, inl, inr, arith}
use Rattle.std.proofs.lemmas.Nat.{div_below, mod_below, div-add-mod'}
use Rattle.std.proofs.lemmas.List.FromFn.{fill_by_all}
use Rattle.std.proofs.lemmas.List.{length-take-le, get_or-take, take-append-drop}
use Rattle.std.proofs.lemmas.Bool.{cases_lt}
use Rattle.matrix.specs.Bits.{stride, place, bit_of, bit_at, spare_at, net_in}
use Rattle.matrix.specs.Memory.{digit, byte_of, packed}
use Rattle.matrix.proofs.Squares.{row_bit}

same_byte : (s t : ℕ → Bool) → ((j : ℕ) → j < 8 → s j ≡ t j) → byte_of s ≡ byte_of t
same_byte s t h =
    let e₀ = h 0 (omega arith) in
    let e₁ = h 1 (omega arith) in
    let e₂ = h 2 (omega arith) in
    let e₃ = h 3 (omega arith) in
    let e₄ = h 4 (omega arith) in
    let e₅ = h 5 (omega arith) in
    let e₆ = h 6 (omega arith) in
    let e₇ = h 7 (omega arith) in
    cc

digit_value : (d w : ℕ) → d < 2 → digit (eqb d 1) w ≡ d * w
digit_value zero w h = omega arith
digit_value (suc zero) w h = omega arith
digit_value (suc (suc d)) w h = absurd (omega arith)

pub byte_again : (x : ℕ) → x < 256 → byte_of (bit_of x) ≡ x
byte_again x h =
    omega (
      arith,
      digit_value (x / 1 % 2) 1 (omega arith),
      digit_value (x / 2 % 2) 2 (omega arith),
      digit_value (x / 4 % 2) 4 (omega arith),
      digit_value (x / 8 % 2) 8 (omega arith),
      digit_value (x / 16 % 2) 16 (omega arith),
      digit_value (x / 32 % 2) 32 (omega arith),
      digit_value (x / 64 % 2) 64 (omega arith),
      digit_value (x / 128 % 2) 128 (omega arith),
    )

-- where there is a byte, a row has one
some_bytes : (n i : ℕ) → i < n * stride n → 0 < stride n
some_bytes n i h = elim (cases_lt 0 (stride n)) [
  | inl l ↦ l
  | inr l ↦ (let z : stride n ≡ 0 = omega arith in let e : n * stride n ≡ n * 0 = ap (λ t. n * t) z in absurd (omega arith))
]

module _ (n : ℕ) (bits : List ℕ) (clear : (x y : ℕ) → spare_at n bits x y ≡ false) (small : (i : ℕ) → get_or bits i 0 < 256) where
  byte_at : (i : ℕ) → i < n * stride n → get_or bits i 0 ≡ byte_of (λ j. bit_at n bits (i / stride n) (8 * (i % stride n) + j))
  byte_at i h =
      let u = i / stride n in
      let q = i % stride n in
      let some : 0 < stride n = some_bytes n i h in
      let row : u < n = div_below i (stride n) n some h in
      let col : q < stride n = mod_below i (stride n) some in
      let whole = div-add-mod' i (stride n) in
      sym (byte_again (get_or bits i 0) (small i))
      ∙ same_byte (bit_of (get_or bits i 0)) (λ j. bit_at n bits u (8 * q + j)) (λ j l. (
      let v = 8 * q + j in
      let group : v / 8 ≡ q = omega arith in
      let at : place n u v ≡ i = ap (λ t. u * stride n + t) group ∙ whole in
      let low : v % 8 ≡ j = omega arith in
      ap₂ (λ a b. bit_of (get_or bits a 0) b) (sym at) (sym low) ∙ sym (row_bit n bits u v (clear u v) row (omega arith))))

  pub packs : {G : Type 0} (grades : List G) → n * stride n ≤ length bits → bits ≡ packed (net_in n bits grades) ++ drop (n * stride n) bits
  packs grades room =
      sym (take-append-drop (n * stride n) bits)
      ∙ ap (λ t. t ++ drop (n * stride n) bits)
      (fill_by_all (λ i. byte_of (λ j. bit_at n bits (i / stride n) (8 * (i % stride n) + j))) (take (n * stride n) bits) (n * stride n) 0 (length-take-le (n * stride n) bits room)
      (λ i h. get_or-take (n * stride n) bits i 0 h ∙ byte_at i h))
