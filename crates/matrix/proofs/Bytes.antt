-- The bits of a number that is made of bytes, and the list of those that are set. Assumes nothing.
use Rattle.std.proofs.Common.{◌≡◌, ℕ, zero, suc, ◌+◌, ◌-◌, ◌*◌, ◌/◌, ◌%◌, ◌^◌, ◌<◌, ◌≤◌, Bool, false, cond, eqb, List, [], ◌∷◌, ◌++◌, length, get_or, take, drop, filter, sym, refl, ap, ◌∙◌, ap₂, inl, inr, arith, pow_pos}
use native.Mathlib.Nat.{div-eq_of_lt}
use Rattle.std.specs.List.{range_with_len}
use Rattle.std.proofs.lemmas.Nat.{shr-shr}
use Rattle.std.proofs.lemmas.List.{append-nil, take_all}
use Rattle.std.proofs.lemmas.Bool.{cases_lt}
use Rattle.matrix.specs.Bits.{bit_of}
use Rattle.matrix.specs.Words.{set_bits}

-- the number of some bytes, the low byte first
abbrev pub word_of : List ℕ → ℕ
word_of [] = 0
word_of (b ∷ bs) = b + 256 * word_of bs

-- the number of eight bytes, as it is read
abbrev pub sum_of : List ℕ → ℕ
sum_of bs =
    get_or bs 0 0 + get_or bs 1 0 * 256 + get_or bs 2 0 * 65536 + get_or bs 3 0 * 16777216 + get_or bs 4 0 * 4294967296 + get_or bs 5 0 * 1099511627776 + get_or bs 6 0 * 281474976710656 + get_or bs 7 0 * 72057594037927936

abbrev pub padded : List ℕ → List ℕ
padded bs = bs ++ drop (length bs) (0 ∷ 0 ∷ 0 ∷ 0 ∷ 0 ∷ 0 ∷ 0 ∷ 0 ∷ [])

pub padded_word : (bs : List ℕ) → length bs ≤ 8 → sum_of (padded bs) ≡ word_of bs
padded_word [] l = omega arith
padded_word (a ∷ []) l = omega arith
padded_word (a ∷ b ∷ []) l = omega arith
padded_word (a ∷ b ∷ c ∷ []) l = omega arith
padded_word (a ∷ b ∷ c ∷ d ∷ []) l = omega arith
padded_word (a ∷ b ∷ c ∷ d ∷ e ∷ []) l = omega arith
padded_word (a ∷ b ∷ c ∷ d ∷ e ∷ f ∷ []) l = omega arith
padded_word (a ∷ b ∷ c ∷ d ∷ e ∷ f ∷ g ∷ []) l = omega arith
padded_word (a ∷ b ∷ c ∷ d ∷ e ∷ f ∷ g ∷ h ∷ []) l = omega arith
padded_word (a ∷ b ∷ c ∷ d ∷ e ∷ f ∷ g ∷ i ∷ x ∷ xs) l = absurd (omega arith)

pub whole_padded : (bs eight : List ℕ) → length bs ≡ 8 → eight ≡ take 8 bs → eight ≡ padded bs
whole_padded bs eight h e = e ∙ take_all 8 bs (omega arith) ∙ sym (ap (λ k. bs ++ drop k (0 ∷ 0 ∷ 0 ∷ 0 ∷ 0 ∷ 0 ∷ 0 ∷ 0 ∷ [])) h ∙ append-nil bs)

pub no_bit : (k : ℕ) → bit_of 0 k ≡ false
no_bit k = ap (λ t. eqb (t % 2) 1) (div-eq_of_lt (pow_pos k))

-- the bits of the low byte
low_bit : (b x j : ℕ) → b < 256 → j < 8 → bit_of (b + 256 * x) j ≡ bit_of b j
low_bit b x zero h l = ap (λ t. eqb t 1) (omega arith)
low_bit b x (suc zero) h l = ap (λ t. eqb t 1) (omega arith)
low_bit b x (suc (suc zero)) h l = ap (λ t. eqb t 1) (omega arith)
low_bit b x (suc (suc (suc zero))) h l = ap (λ t. eqb t 1) (omega arith)
low_bit b x (suc (suc (suc (suc zero)))) h l = ap (λ t. eqb t 1) (omega arith)
low_bit b x (suc (suc (suc (suc (suc zero))))) h l = ap (λ t. eqb t 1) (omega arith)
low_bit b x (suc (suc (suc (suc (suc (suc zero)))))) h l = ap (λ t. eqb t 1) (omega arith)
low_bit b x (suc (suc (suc (suc (suc (suc (suc zero))))))) h l = ap (λ t. eqb t 1) (omega arith)
low_bit b x (suc (suc (suc (suc (suc (suc (suc (suc j)))))))) h l = absurd (omega arith)

-- .. and above it
high_bit : (b x j : ℕ) → b < 256 → 8 ≤ j → bit_of (b + 256 * x) j ≡ bit_of x (j - 8)
high_bit b x j h l =
    let e : j ≡ 8 + (j - 8) = omega arith in
    let d : (b + 256 * x) / 2 ^ 8 ≡ x = omega arith in
    ap (λ t. eqb (t % 2) 1) (ap (λ t. (b + 256 * x) / 2 ^ t) e ∙ sym (shr-shr (b + 256 * x) 8 (j - 8)) ∙ ap (λ t. t / 2 ^ (j - 8)) d)

pub word_bit : (bs : List ℕ) (j : ℕ) → ((k : ℕ) → get_or bs k 0 < 256) → bit_of (word_of bs) j ≡ bit_of (get_or bs (j / 8) 0) (j % 8)
word_bit [] j h = no_bit j ∙ sym (no_bit (j % 8))
word_bit (b ∷ bs) j h = elim (cases_lt j 8) [
  | inl l ↦ (
      let q : 0 ≡ j / 8 = omega arith in
      let r : j ≡ j % 8 = omega arith in
      low_bit b (word_of bs) j (h 0) l ∙ ap₂ (λ i k. bit_of (get_or (b ∷ bs) i 0) k) q r)
  | inr l ↦ (
      let q : suc ((j - 8) / 8) ≡ j / 8 = omega arith in
      let r : (j - 8) % 8 ≡ j % 8 = omega arith in
      high_bit b (word_of bs) j (h 0) l ∙ word_bit bs (j - 8) (λ k. h (suc k)) ∙ ap₂ (λ i k. bit_of (get_or (b ∷ bs) i 0) k) q r)
]

-- the next bit is the first of half the number
half_bit : (w j : ℕ) → bit_of (w / 2) j ≡ bit_of w (j + 1)
half_bit w j =
    let e : 1 + j ≡ j + 1 = omega arith in
    ap (λ t. eqb (t % 2) 1) (shr-shr w 1 j ∙ ap (λ t. w / 2 ^ t) e)

-- the set bits of a word are the numbers that pass, where its bits tell which do
pub set_kept : (m from w : ℕ) (p : ℕ → Bool) → ((j : ℕ) → j < m → bit_of w j ≡ p (from + j)) → set_bits m from w ≡ filter p (range_with_len from m)
unfolding set_bits
set_kept zero from w p h = refl
set_kept (suc m) from w p h =
    let here : eqb (w % 2) 1 ≡ p from = (let a : w / 1 ≡ w = omega arith in let b : from + 0 ≡ from = omega arith in sym (ap (λ t. eqb (t % 2) 1) a) ∙ h 0 (omega arith) ∙ ap p b) in
    let next : (j : ℕ) → j < m → bit_of (w / 2) j ≡ p (from + 1 + j) = λ j l. (let b : from + (j + 1) ≡ from + 1 + j = omega arith in half_bit w j ∙ h (j + 1) (omega arith) ∙ ap p b) in
    let rest = set_kept m (from + 1) (w / 2) p next in
    ap₂ (λ t l. cond t (from ∷ l) l) here rest
