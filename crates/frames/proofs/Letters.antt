-- Digits and bytes stand for each other: lines of digits and lists of bytes, both ways. Assumes nothing.
use Rattle.std.proofs.Common.{◌≡◌, ℕ, ◌+◌, ◌*◌, ◌/◌, ◌%◌, ◌<◌, ◌≤◌, Bool, true, false, cond, List, [], ◌∷◌, length, Some, None, refl, ap, ◌∙◌, arith}
use Rattle.std.specs.List.{AllByRecursion}
use Rattle.std.proofs.lemmas.Bool.{and_parts, and_from}
use Rattle.std.proofs.lemmas.Bool.Decides.{nat_tests}
use Rattle.grades.specs.Places.{Byte}
use Rattle.frames.specs.declared.fault.LineFault.TheVariants.{WrongSize, NoDigit}
use Rattle.frames.specs.Digits.{is_digit, value_of, letter_of}
use Rattle.frames.specs.Lines.{all_digits, bytes_in, line_of, wrong_size, line_fault}
use Rattle.frames.proofs.Spelling.{right_size, length_line}

letter_of_value : (c : ℕ) → is_digit c ≡ true → (value_of c < 16) × (letter_of (value_of c) ≡ c)
letter_of_value c e = (grind (arith, nat_tests), grind (arith, nat_tests))

value_of_letter : (d : ℕ) → d < 16 → (is_digit (letter_of d) ≡ true) × (value_of (letter_of d) ≡ d)
value_of_letter d h = (grind (arith, nat_tests), grind (arith, nat_tests))

-- the bytes of a line of digits, an even number of them
pub record Spelt (cs : List ℕ) : Type 0 where
  pub again : line_of (bytes_in cs) ≡ cs
  pub bytes : AllByRecursion Byte (bytes_in cs)
  pub half : 2 * length (bytes_in cs) ≡ length cs

spelt_more : (a b : ℕ) (cs : List ℕ) → is_digit a ≡ true → is_digit b ≡ true → Spelt cs → Spelt (a ∷ b ∷ cs)
spelt_more a b cs p q s =
    let x = letter_of_value a p in
    let y = letter_of_value b q in
    let high : (value_of a * 16 + value_of b) / 16 % 16 ≡ value_of a = (let x' = x.0 in let y' = y.0 in omega arith) in
    let low : (value_of a * 16 + value_of b) % 16 ≡ value_of b = (let y' = y.0 in omega arith) in
    let small : value_of a * 16 + value_of b < 256 = (let x' = x.0 in let y' = y.0 in omega arith) in
    let n = s.half in
    record {
      again = ap (λ n. letter_of n ∷ letter_of ((value_of a * 16 + value_of b) % 16) ∷ line_of (bytes_in cs)) high
          ∙ ap (λ n. letter_of (value_of a) ∷ letter_of n ∷ line_of (bytes_in cs)) low
          ∙ ap (λ c. c ∷ letter_of (value_of b) ∷ line_of (bytes_in cs)) x.1 ∙ ap (λ c. a ∷ c ∷ line_of (bytes_in cs)) y.1 ∙ ap (λ r. a ∷ b ∷ r) s.again;
      bytes = (small, s.bytes);
      half = omega arith;
    }

spelt : (cs : List ℕ) → length cs % 2 ≡ 0 → all_digits cs ≡ true → Spelt cs
spelt [] h e = record { again = refl; bytes = tt; half = refl }
spelt (a ∷ []) h e = absurd (omega arith)
spelt (a ∷ b ∷ cs) h e =
    let p = and_parts (is_digit a) _ e in
    let q = and_parts (is_digit b) _ p.1 in
    spelt_more a b cs p.0 q.0 (spelt cs (omega arith) q.1)

none_means : (a b : Bool) → cond a (Some WrongSize) (cond b None (Some NoDigit)) ≡ None → (a ≡ false) × (b ≡ true)
none_means false true e = (refl, refl)
none_means false false e = let z : ◌≡◌ {A = ℕ} 0 1 = cc in absurd (omega arith)
none_means true b e = let z : ◌≡◌ {A = ℕ} 0 1 = cc in absurd (omega arith)

pub spelt_line : (cs : List ℕ) → line_fault cs ≡ None → Spelt cs × (0 < length cs)
spelt_line cs e =
    let n = none_means (wrong_size (length cs)) (all_digits cs) e in
    let w = right_size (length cs) n.0 in
    (spelt cs w.1 n.1, w.0)

digits_of : (bs : List ℕ) → (all_digits (line_of bs) ≡ true)
digits_of [] = refl
digits_of (b ∷ bs) =
    let hi : b / 16 % 16 < 16 = omega arith in
    let lo : b % 16 < 16 = omega arith in
    and_from _ _ (value_of_letter (b / 16 % 16) hi).0 (and_from _ _ (value_of_letter (b % 16) lo).0 (digits_of bs))

pub bytes_back : (bs : List ℕ) → AllByRecursion Byte bs → bytes_in (line_of bs) ≡ bs
bytes_back [] h = refl
bytes_back (b ∷ bs) h =
    let byte = h.0 in
    let hi : b / 16 % 16 < 16 = omega arith in
    let lo : b % 16 < 16 = omega arith in
    let n : b / 16 % 16 * 16 + b % 16 ≡ b = omega arith in
    ap (λ x. (x * 16 + value_of (letter_of (b % 16))) ∷ bytes_in (line_of bs)) (value_of_letter (b / 16 % 16) hi).1
    ∙ ap (λ x. (b / 16 % 16 * 16 + x) ∷ bytes_in (line_of bs)) (value_of_letter (b % 16) lo).1
    ∙ ap (λ x. x ∷ bytes_in (line_of bs)) n ∙ ap (λ r. b ∷ r) (bytes_back bs h.1)

size_of : (n : ℕ) → 0 < n → n ≤ 32 → wrong_size (2 * n) ≡ false
size_of n p h = grind (arith, nat_tests)

pub line_granted : (bs : List ℕ) → 0 < length bs → length bs ≤ 32 → line_fault (line_of bs) ≡ None
line_granted bs p h =
    ap (λ n. cond (wrong_size n) (Some WrongSize) (cond (all_digits (line_of bs)) None (Some NoDigit))) (length_line bs)
    ∙ ap (λ b. cond b (Some WrongSize) (cond (all_digits (line_of bs)) None (Some NoDigit))) (size_of (length bs) p h)
    ∙ ap (λ b. cond b None (Some NoDigit)) (digits_of bs)
