-- Fields of two and four bytes, read and written, and the front of a frame as its bytes: lemmas for the laws of messages. Assumes nothing.
--     byte_at, front              a byte of some bytes, and their front, one by one
--     word_bytes, long_bytes      two and four bytes of any number are bytes
--     word_back, word_at_lem, long_at_lem   two and four bytes as a number, and that number as the bytes
--     no_field .. one_word_rest   the bytes before the check, for each sequence of fields
--     landed, this_kind, no_kind  what is read is of one of the kinds
use Rattle.std.proofs.Common.{◌≡◌, ℕ, ◌+◌, ◌-◌, ◌*◌, ◌/◌, ◌%◌, ◌<◌, ◌≤◌, Bool, true, false, cond, eqb, List, [], ◌∷◌, ◌++◌, map, length, get_or, take, drop, Some, None, Option, sym, refl, ap, ◌∙◌, subst, inl, inr, arith}
use Rattle.std.specs.List.{range_with_len, AllByRecursion}
use Rattle.std.proofs.lemmas.List.FromFn.{fill_by_all}
use Rattle.std.proofs.ByRecursion.{All-get_or}
use Rattle.std.proofs.lemmas.List.{drop-take, get_or_past, get_or-take, length-take-le, take-append-drop, take-take}
use Rattle.std.proofs.lemmas.Bool.{cases_lt, eqb-true}
use Rattle.grades.specs.Encoding.{bytes32, number32}
use Rattle.grades.specs.Places.{Byte}
use Rattle.frames.specs.Frames.{bytes16, word_at, long_at}

pub byte_at : (bs : List ℕ) → AllByRecursion Byte bs → (i : ℕ) → get_or bs i 0 < 256
byte_at bs h i = elim (cases_lt i (length bs)) [
  | inl l ↦ All-get_or Byte bs i 0 l h
  | inr l ↦ (let e = get_or_past bs i 0 l in omega arith)
]

pub front : (bs : List ℕ) (n : ℕ) → n ≤ length bs → take n bs ≡ map (λ i. get_or bs i 0) (range_with_len 0 n)
front bs n h = fill_by_all (λ i. get_or bs i 0) (take n bs) n 0 (length-take-le n bs h) (λ k l. get_or-take n bs k 0 l)

pub word_bytes : (n : ℕ) → AllByRecursion Byte (bytes16 n)
word_bytes n = (omega arith, (omega arith, tt))

pub long_bytes : (n : ℕ) → AllByRecursion Byte (bytes32 n)
long_bytes n = (omega arith, (omega arith, (omega arith, (omega arith, tt))))

pub word_back : (n : ℕ) → n < 65536 → n / 256 % 256 * 256 + n % 256 ≡ n
word_back n h = omega arith

two_bytes : (a b : ℕ) → a < 256 → b < 256 → (a * 256 + b < 65536) × (bytes16 (a * 256 + b) ≡ a ∷ b ∷ [])
two_bytes a b h l =
    let high : (a * 256 + b) / 256 % 256 ≡ a = omega arith in
    let low : (a * 256 + b) % 256 ≡ b = omega arith in
    (omega arith, ap (λ x. x ∷ ((a * 256 + b) % 256) ∷ []) high ∙ ap (λ x. a ∷ x ∷ []) low)

four_bytes : (a b c d : ℕ) → a < 256 → b < 256 → c < 256 → d < 256 → (number32 a b c d < 4294967296) × (bytes32 (number32 a b c d) ≡ a ∷ b ∷ c ∷ d ∷ [])
four_bytes a b c d ha hb hc hd =
    let n = number32 a b c d in
    let ea : n / 16777216 % 256 ≡ a = omega arith in
    let eb : n / 65536 % 256 ≡ b = omega arith in
    let ec : n / 256 % 256 ≡ c = omega arith in
    let ed : n % 256 ≡ d = omega arith in (
      omega arith,
      ap (λ x. x ∷ (n / 65536 % 256) ∷ (n / 256 % 256) ∷ (n % 256) ∷ []) ea ∙ ap (λ x. a ∷ x ∷ (n / 256 % 256) ∷ (n % 256) ∷ []) eb
          ∙ ap (λ x. a ∷ b ∷ x ∷ (n % 256) ∷ []) ec ∙ ap (λ x. a ∷ b ∷ c ∷ x ∷ []) ed,
    )

module _ (bs : List ℕ) (h : AllByRecursion Byte bs) where
  pub word_at_lem : (i : ℕ) → (word_at bs i < 65536) × (bytes16 (word_at bs i) ≡ get_or bs i 0 ∷ get_or bs (i + 1) 0 ∷ [])
  word_at_lem i = two_bytes (get_or bs i 0) (get_or bs (i + 1) 0) (byte_at bs h i) (byte_at bs h (i + 1))

  pub long_at_lem : (i : ℕ) → (long_at bs i < 4294967296) × (bytes32 (long_at bs i) ≡ get_or bs i 0 ∷ get_or bs (i + 1) 0 ∷ get_or bs (i + 2) 0 ∷ get_or bs (i + 3) 0 ∷ [])
  long_at_lem i = four_bytes (get_or bs i 0) (get_or bs (i + 1) 0) (get_or bs (i + 2) 0) (get_or bs (i + 3) 0) (byte_at bs h i) (byte_at bs h (i + 1)) (byte_at bs h (i + 2)) (byte_at bs h (i + 3))

-- the bytes before the check, for each sequence of fields
module _ (bs : List ℕ) (h : AllByRecursion Byte bs) (k : ℕ) (kind : get_or bs 0 0 ≡ k) where
  before_check : (n : ℕ) → length bs ≡ n + 1 → take (length bs - 1) bs ≡ map (λ i. get_or bs i 0) (range_with_len 0 n)
  before_check n l = let e : length bs - 1 ≡ n = omega arith in ap (λ m. take m bs) e ∙ front bs n (omega arith)

  pub no_field : length bs ≡ 2 → k ∷ [] ≡ take (length bs - 1) bs
  no_field l = sym (before_check 1 l ∙ ap (λ x. x ∷ []) kind)

  pub one_byte : length bs ≡ 3 → k ∷ get_or bs 1 0 ∷ [] ≡ take (length bs - 1) bs
  one_byte l = sym (before_check 2 l ∙ ap (λ x. x ∷ get_or bs 1 0 ∷ []) kind)

  pub one_word : length bs ≡ 4 → k ∷ bytes16 (word_at bs 1) ≡ take (length bs - 1) bs
  one_word l = ap (λ x. k ∷ x) (word_at_lem bs h 1).1 ∙ sym (before_check 3 l ∙ ap (λ x. x ∷ get_or bs 1 0 ∷ get_or bs 2 0 ∷ []) kind)

  pub two_words : length bs ≡ 6 → k ∷ bytes16 (word_at bs 1) ++ bytes16 (word_at bs 3) ≡ take (length bs - 1) bs
  two_words l =
      ap (λ x. k ∷ x ++ bytes16 (word_at bs 3)) (word_at_lem bs h 1).1 ∙ ap (λ x. k ∷ get_or bs 1 0 ∷ get_or bs 2 0 ∷ x) (word_at_lem bs h 3).1
      ∙ sym (before_check 5 l ∙ ap (λ x. x ∷ get_or bs 1 0 ∷ get_or bs 2 0 ∷ get_or bs 3 0 ∷ get_or bs 4 0 ∷ []) kind)

  pub two_words_byte : length bs ≡ 7 → k ∷ bytes16 (word_at bs 1) ++ bytes16 (word_at bs 3) ++ get_or bs 5 0 ∷ [] ≡ take (length bs - 1) bs
  two_words_byte l =
      ap (λ x. k ∷ x ++ bytes16 (word_at bs 3) ++ get_or bs 5 0 ∷ []) (word_at_lem bs h 1).1 ∙ ap (λ x. k ∷ get_or bs 1 0 ∷ get_or bs 2 0 ∷ x ++ get_or bs 5 0 ∷ []) (word_at_lem bs h 3).1
      ∙ sym (before_check 6 l ∙ ap (λ x. x ∷ get_or bs 1 0 ∷ get_or bs 2 0 ∷ get_or bs 3 0 ∷ get_or bs 4 0 ∷ get_or bs 5 0 ∷ []) kind)

  pub one_long : length bs ≡ 6 → k ∷ bytes32 (long_at bs 1) ≡ take (length bs - 1) bs
  one_long l = ap (λ x. k ∷ x) (long_at_lem bs h 1).1 ∙ sym (before_check 5 l ∙ ap (λ x. x ∷ get_or bs 1 0 ∷ get_or bs 2 0 ∷ get_or bs 3 0 ∷ get_or bs 4 0 ∷ []) kind)

  pub two_bytes_long : length bs ≡ 8 → k ∷ get_or bs 1 0 ∷ get_or bs 2 0 ∷ bytes32 (long_at bs 3) ≡ take (length bs - 1) bs
  two_bytes_long l = ap (λ x. k ∷ get_or bs 1 0 ∷ get_or bs 2 0 ∷ x) (long_at_lem bs h 3).1 ∙ sym (before_check 7 l ∙ ap (λ x. x ∷ get_or bs 1 0 ∷ get_or bs 2 0 ∷ get_or bs 3 0 ∷ get_or bs 4 0 ∷ get_or bs 5 0 ∷ get_or bs 6 0 ∷ []) kind)

  pub one_word_rest : (n : ℕ) → length bs ≡ 4 + n → k ∷ bytes16 (word_at bs 1) ++ take n (drop 3 bs) ≡ take (length bs - 1) bs
  one_word_rest n l =
      let e : length bs - 1 ≡ 3 + n = omega arith in
      let three : take 3 bs ≡ get_or bs 0 0 ∷ get_or bs 1 0 ∷ get_or bs 2 0 ∷ [] = front bs 3 (omega arith) in
      ap (λ x. k ∷ x ++ take n (drop 3 bs)) (word_at_lem bs h 1).1 ∙ ap (λ x. x ∷ get_or bs 1 0 ∷ get_or bs 2 0 ∷ take n (drop 3 bs)) (sym kind)
      ∙ sym (ap (λ m. take m bs) e ∙ sym (take-append-drop 3 (take (3 + n) bs))
      ∙ ap (λ x. x ++ drop 3 (take (3 + n) bs)) (take-take 3 (3 + n) bs (omega arith) ∙ three) ∙ ap (λ x. get_or bs 0 0 ∷ get_or bs 1 0 ∷ get_or bs 2 0 ∷ x) (drop-take 3 n bs))

pub landed : {X : Type 0} (P : X → Type 0) (a q : X) → Some a ≡ Some q → P a → P q
landed P a q e p = let same : a ≡ q = cc in subst P same p

-- one entry of a list of kinds: it is this kind, or one of the rest
pub this_kind : {X Y : Type 0} (k n : ℕ) (a rest : Option X) (q : X) → (k ≡ n → a ≡ Some q → Y) → (rest ≡ Some q → Y) → cond (eqb k n) a rest ≡ Some q → Y
this_kind {Y = Y} k n a rest q this other = go (eqb k n) refl
  where
    go : (t : Bool) → eqb k n ≡ t → cond t a rest ≡ Some q → Y
    go true e p = this (eqb-true k n e) p
    go false e p = other p

pub no_kind : {X Y : Type 0} (q : X) → None ≡ Some q → Y
no_kind q e = let z : ◌≡◌ {A = ℕ} 0 1 = cc in absurd (omega arith)
