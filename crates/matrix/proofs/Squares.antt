-- Places and bits of the square, and a bit that is flipped. Assumes nothing.
use Rattle.std.proofs.Common.{◌≡◌, ℕ, zero, suc, ◌+◌, ◌-◌, ◌*◌, ◌/◌, ◌%◌, ◌^◌, ◌<◌, ◌≤◌, false, not, eqb, ltb, List, length, get_or, sym, refl, ap, ◌∙◌, inl, inr, arith, pow_pos}
use native.Mathlib.Nat.{div-eq_of_lt, div_self}
use lib.Bits.{bit_xor, xor_zero_r, shifted_even}
use lib.Pow.{pow-lt}
use Rattle.std.proofs.lemmas.Nat.{mul-add-lt, xor_shr, xor_mod, pow-add, shl-shr, div-mul-add, mod-mul-add}
use Rattle.std.proofs.lemmas.List.{get_or-set_same, get_or-set_other}
use Rattle.std.proofs.lemmas.Bool.{cases_eq, cases_lt, lt-ltb, le-ltb, and_left, and_right}
use Rattle.std.proofs.lemmas.Bool.Decides.{nat_tests}
use Rattle.matrix.specs.Bits.{stride, place, bit_of, bit_at, spare_at, flipped}

pub place_lt : (n u v : ℕ) → u < n → v / 8 < stride n → place n u v < n * stride n
place_lt n u v a b = omega (arith, mul-add-lt u (stride n) (v / 8) n a b)

pub bit_inside : (n : ℕ) (bits : List ℕ) (u v : ℕ) → u < n → v < n → bit_at n bits u v ≡ bit_of (get_or bits (place n u v) 0) (v % 8)
bit_inside n bits u v a b = rw (lt-ltb u n a, lt-ltb v n b)

pub bit_past : (n : ℕ) (bits : List ℕ) (u v : ℕ) → n ≤ v → bit_at n bits u v ≡ false
bit_past n bits u v h = and_right (ltb u n) _ (and_left (ltb v n) _ (le-ltb v n h))

pub bit_nobody : (n : ℕ) (bits : List ℕ) (u v : ℕ) → n ≤ u → bit_at n bits u v ≡ false
bit_nobody n bits u v h = and_left (ltb u n) _ (le-ltb u n h)

-- the bit of a pair of the rows, a person or not, where no spare bit is set
pub row_bit : (n : ℕ) (bits : List ℕ) (u v : ℕ) → spare_at n bits u v ≡ false → u < n → v < 8 * stride n → bit_at n bits u v ≡ bit_of (get_or bits (place n u v) 0) (v % 8)
row_bit n bits u v clear h l = grind (arith, nat_tests)

-- one bit of a power of two
power_bit_other : (j k : ℕ) → (j ≡ k → ⊥) → (2 ^ j / 2 ^ k) % 2 ≡ 0
power_bit_other j k ne = elim (cases_lt j k) [
  | inl h ↦ ap (λ t. t % 2) (div-eq_of_lt (pow-lt h))
  | inr h ↦ (
      let m = (j - k) - 1 in
      let s : j ≡ suc m + k = omega arith in
      let e : 2 ^ j / 2 ^ k ≡ 2 ^ suc m = ap (λ t. 2 ^ t / 2 ^ k) s ∙ ap (λ t. t / 2 ^ k) (pow-add 2 (suc m) k) ∙ shl-shr (2 ^ suc m) k in
      let o : 2 ^ suc m ≡ 1 * 2 ^ suc m = omega arith in
      ap (λ t. t % 2) (e ∙ o) ∙ shifted_even 1 m)
]

power_bit_same : (k : ℕ) → (2 ^ k / 2 ^ k) % 2 ≡ 1
power_bit_same k = ap (λ t. t % 2) (div_self (pow_pos k))

xor_bit : (b j k : ℕ) → (bit_xor b (2 ^ j) / 2 ^ k) % 2 ≡ bit_xor ((b / 2 ^ k) % 2) ((2 ^ j / 2 ^ k) % 2)
xor_bit b j k = ap (λ t. t % 2) (xor_shr b (2 ^ j) k) ∙ xor_mod (b / 2 ^ k) (2 ^ j / 2 ^ k) 1

xor_one : (a : ℕ) → a < 2 → eqb (bit_xor a 1) 1 ≡ not (eqb a 1)
xor_one zero h = refl
xor_one (suc zero) h = refl
xor_one (suc (suc a)) h = absurd (omega arith)

pub xor_here : (b k : ℕ) → bit_of (bit_xor b (2 ^ k)) k ≡ not (bit_of b k)
xor_here b k = ap (λ t. eqb t 1) (xor_bit b k k ∙ ap (bit_xor ((b / 2 ^ k) % 2)) (power_bit_same k)) ∙ xor_one ((b / 2 ^ k) % 2) (omega arith)

pub xor_there : (b j k : ℕ) → (j ≡ k → ⊥) → bit_of (bit_xor b (2 ^ j)) k ≡ bit_of b k
xor_there b j k ne = ap (λ t. eqb t 1) (xor_bit b j k ∙ ap (bit_xor ((b / 2 ^ k) % 2)) (power_bit_other j k ne) ∙ xor_zero_r ((b / 2 ^ k) % 2))

-- two pairs at one byte are of one row and one group of eight
same_row : (n a b x y : ℕ) → b / 8 < stride n → y / 8 < stride n → place n x y ≡ place n a b → x ≡ a
same_row n a b x y p q e = sym (div-mul-add x (stride n) (y / 8) q) ∙ ap (λ t. t / stride n) e ∙ div-mul-add a (stride n) (b / 8) p

same_byte : (n a b x y : ℕ) → b / 8 < stride n → y / 8 < stride n → place n x y ≡ place n a b → y / 8 ≡ b / 8
same_byte n a b x y p q e = sym (mod-mul-add x (stride n) (y / 8) q) ∙ ap (λ t. t % stride n) e ∙ mod-mul-add a (stride n) (b / 8) p

module _ (n : ℕ) (bits : List ℕ) (a b : ℕ) (la : a < n) (lb : b < n) (room : n * stride n ≤ length bits) where
  group : b / 8 < stride n
  group = omega arith

  within : place n a b < length bits
  within = omega (arith, place_lt n a b la group)

  -- any bit of the rows, persons or not
  pub flip_raw_there : (x y : ℕ) → y / 8 < stride n → ((x ≡ a) × (y ≡ b) → ⊥) → bit_of (get_or (flipped n bits a b) (place n x y) 0) (y % 8) ≡ bit_of (get_or bits (place n x y) 0) (y % 8)
  flip_raw_there x y q ne =
      let old = get_or bits (place n a b) 0 in
      elim (cases_eq (place n x y) (place n a b)) [
        | inl e ↦ (
            let r = same_row n a b x y group q e in
            let s = same_byte n a b x y group q e in
            let d : b % 8 ≡ y % 8 → ⊥ = λ m. ne (r, omega arith) in
            ap (λ t. bit_of (get_or (flipped n bits a b) t 0) (y % 8)) e
            ∙ ap (λ t. bit_of t (y % 8)) (get_or-set_same bits (place n a b) (bit_xor old (2 ^ (b % 8))) 0 within)
            ∙ xor_there old (b % 8) (y % 8) d
            ∙ sym (ap (λ t. bit_of (get_or bits t 0) (y % 8)) e))
        | inr d ↦ ap (λ t. bit_of t (y % 8)) (get_or-set_other bits (place n a b) (place n x y) (bit_xor old (2 ^ (b % 8))) 0 d)
      ]

  pub flip_here : bit_at n (flipped n bits a b) a b ≡ not (bit_at n bits a b)
  flip_here =
      bit_inside n (flipped n bits a b) a b la lb
      ∙ ap (λ t. bit_of t (b % 8)) (get_or-set_same bits (place n a b) (bit_xor (get_or bits (place n a b) 0) (2 ^ (b % 8))) 0 within)
      ∙ xor_here (get_or bits (place n a b) 0) (b % 8)
      ∙ ap not (sym (bit_inside n bits a b la lb))

  pub flip_there : (x y : ℕ) → ((x ≡ a) × (y ≡ b) → ⊥) → bit_at n (flipped n bits a b) x y ≡ bit_at n bits x y
  flip_there x y ne = grind (arith, nat_tests, flip_raw_there x y)

  pub flip_spare : (x y : ℕ) → spare_at n (flipped n bits a b) x y ≡ spare_at n bits x y
  flip_spare x y = grind (arith, nat_tests, flip_raw_there x y)
