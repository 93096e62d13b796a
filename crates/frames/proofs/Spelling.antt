-- One turn of the line reader and of the line writer. Assumes nothing.
use Rattle.std.proofs.Common.{◌≡◌, ℕ, zero, suc, ◌+◌, ◌-◌, ◌*◌, ◌/◌, ◌%◌, ◌<◌, ◌≤◌, Bool, true, false, cond, ◌&&◌, List, [], ◌∷◌, ◌++◌, length, get_or, take, drop, set, replicate, Some, None, Ok, Err, Result, sym, refl, ap, ◌∙◌, arith}
use Rattle.std.proofs.lemmas.List.{append_assoc, append-nil, length-take-le, drop_all, drop-drop, drop_more, drop-replicate, drop-set-lt, get_or-drop, get_or-take, set-append_right, take_all, take-append-drop, take_more, take_more_set}
use Rattle.std.specs.Simd.{first_chunks}
use Rattle.std.proofs.lemmas.Bool.Decides.{nat_tests}
use Rattle.frames.specs.declared.fault.LineFault.{LineFault}
use Rattle.frames.specs.declared.fault.LineFault.TheVariants.{WrongSize, NoDigit}
use Rattle.frames.specs.declared.frame.Frame.{Frame}
use Rattle.frames.specs.declared.line.Line.{Line}
use Rattle.frames.specs.Digits.{is_digit, value_of, letter_of, digit_of}
use Rattle.frames.specs.Lines.{all_digits, bytes_in, line_of, wrong_size, line_fault, granted, unless, frame_of, frame_after, typed}

pub right_size : (n : ℕ) → wrong_size n ≡ false → (0 < n) × (n % 2 ≡ 0) × (n ≤ 64)
right_size n e = (grind (arith, nat_tests), grind (arith, nat_tests), grind (arith, nat_tests))

read_ok : (b : Bool) (v d : ℕ) → Ok d ≡ cond b (Ok v) (Err NoDigit) → (b ≡ true) × (v ≡ d)
read_ok true v d e = (refl, cc)
read_ok false v d e = let z : ◌≡◌ {A = ℕ} 0 1 = cc in absurd (omega arith)

pub digit_ok : (c d : ℕ) → Ok d ≡ digit_of c → (is_digit c ≡ true) × (value_of c ≡ d)
digit_ok c d e = read_ok (is_digit c) (value_of c) d e

read_err : (b : Bool) (v : ℕ) (f : LineFault) → Err f ≡ cond b (Ok v) (Err NoDigit) → (b ≡ false) × (f ≡ NoDigit)
read_err true v f e = let z : ◌≡◌ {A = ℕ} 0 1 = cc in absurd (omega arith)
read_err false v f e = (refl, cc)

pub digit_err : (c : ℕ) (f : LineFault) → Err f ≡ digit_of c → (is_digit c ≡ false) × (f ≡ NoDigit)
digit_err c f e = read_err (is_digit c) (value_of c) f e

-- the characters of a line in pairs
pair_at : (n i : ℕ) (cs : List ℕ) → i < n → get_or (first_chunks 2 n cs) i [] ≡ take 2 (drop (2 * i) cs)
pair_at zero i cs h = absurd (omega arith)
pair_at (suc n) zero cs h = refl
pair_at (suc n) (suc i) cs h =
    let twice : 2 + 2 * i ≡ 2 * suc i = omega arith in
    pair_at n i (drop 2 cs) (omega arith) ∙ ap (take 2) (drop-drop (2 * i) 2 cs ∙ ap (λ k. drop k cs) twice)

abbrev pub high : List (List ℕ) → ℕ → ℕ
high pairs i = get_or (get_or pairs i []) 0 0

abbrev pub low : List (List ℕ) → ℕ → ℕ
low pairs i = get_or (get_or pairs i []) 1 0

-- the pair of byte i, with the rest of the line behind it
module _ (pairs : List (List ℕ)) (cs : List ℕ) (i : ℕ) (front : pairs ≡ first_chunks 2 (length cs / 2) cs) (h : i < length cs / 2) where
  stands_at : (k j : ℕ) → k < 2 → 2 * i + k ≡ j → get_or (get_or pairs i []) k 0 ≡ get_or cs j 0
  stands_at k j l m =
      ap (λ ps. get_or (get_or ps i []) k 0) front ∙ ap (λ p. get_or p k 0) (pair_at (length cs / 2) i cs h) ∙ get_or-take 2 (drop (2 * i) cs) k 0 l ∙ get_or-drop (2 * i) cs k 0 ∙ ap (λ x. get_or cs x 0) m

  two : drop (2 * i) cs ≡ high pairs i ∷ low pairs i ∷ drop (2 * (i + 1)) cs
  two =
      let e : 2 * i + 1 + 1 ≡ 2 * (i + 1) = omega arith in
      drop_more cs (2 * i) 0 (omega arith) ∙ ap (λ c. c ∷ drop (2 * i + 1) cs) (sym (stands_at 0 (2 * i) (omega arith) (omega arith)))
      ∙ ap (λ r. high pairs i ∷ r) (drop_more cs (2 * i + 1) 0 (omega arith) ∙ ap (λ n. get_or cs (2 * i + 1) 0 ∷ drop n cs) e)
      ∙ ap (λ c. high pairs i ∷ c ∷ drop (2 * (i + 1)) cs) (sym (stands_at 1 (2 * i + 1) (omega arith) refl))

  pub bytes_more : (bs : List ℕ) (a b : ℕ) → i < length bs → value_of (high pairs i) ≡ a → value_of (low pairs i) ≡ b → bytes_in cs ≡ take i bs ++ bytes_in (drop (2 * i) cs) → bytes_in cs ≡ take (i + 1) (set bs i (a * 16 + b)) ++ bytes_in (drop (2 * (i + 1)) cs)
  bytes_more bs a b l p q e =
      e ∙ ap (λ r. take i bs ++ bytes_in r) two
      ∙ ap (λ x. take i bs ++ x ∷ bytes_in (drop (2 * (i + 1)) cs)) (ap (λ x. x * 16 + value_of (low pairs i)) p ∙ ap (λ x. a * 16 + x) q)
      ∙ sym (ap (λ t. t ++ bytes_in (drop (2 * (i + 1)) cs)) (take_more_set bs i (a * 16 + b) l) ∙ append_assoc (take i bs) ((a * 16 + b) ∷ []) (bytes_in (drop (2 * (i + 1)) cs)))

  module _ (e : all_digits cs ≡ all_digits (drop (2 * i) cs)) where
    pub digits_more : is_digit (high pairs i) ≡ true → is_digit (low pairs i) ≡ true → all_digits cs ≡ all_digits (drop (2 * (i + 1)) cs)
    digits_more p q = e ∙ ap all_digits two ∙ ap (λ x. x && (is_digit (low pairs i) && all_digits (drop (2 * (i + 1)) cs))) p ∙ ap (λ x. x && all_digits (drop (2 * (i + 1)) cs)) q

    pub bad_high : is_digit (high pairs i) ≡ false → all_digits cs ≡ false
    bad_high p = e ∙ ap all_digits two ∙ ap (λ x. x && (is_digit (low pairs i) && all_digits (drop (2 * (i + 1)) cs))) p

    pub bad_low : is_digit (high pairs i) ≡ true → is_digit (low pairs i) ≡ false → all_digits cs ≡ false
    bad_low p q = e ∙ ap all_digits two ∙ ap (λ x. x && (is_digit (low pairs i) && all_digits (drop (2 * (i + 1)) cs))) p ∙ ap (λ x. x && all_digits (drop (2 * (i + 1)) cs)) q

pub zeros_more : (bs : List ℕ) (i v : ℕ) → drop i bs ≡ replicate (32 - i) 0 → drop (i + 1) (set bs i v) ≡ replicate (32 - (i + 1)) 0
zeros_more bs i v e =
    let lt : i < i + 1 = omega arith in
    let n : (32 - i) - 1 ≡ 32 - (i + 1) = omega arith in
    drop-set-lt (i + 1) bs i v lt ∙ sym (drop-drop 1 i bs) ∙ ap (drop 1) e ∙ drop-replicate 1 (32 - i) 0 ∙ ap (λ m. replicate m 0) n

-- what a way out of the reader owes
pub record Out (f g : Frame) (cs : List ℕ) (r : Result (Unit {0}) LineFault) : Type 0 where
  pub answer : r ≡ granted (line_fault cs)
  pub after : g ≡ frame_after f cs

pub refused : (f : Frame) (cs : List ℕ) (r : Result (Unit {0}) LineFault) → r ≡ Err NoDigit → wrong_size (length cs) ≡ false → all_digits cs ≡ false → Out f f cs r
refused f cs r n s e =
    let q : line_fault cs ≡ Some NoDigit = ap (λ b. cond b (Some WrongSize) (cond (all_digits cs) None (Some NoDigit))) s ∙ ap (λ b. cond b None (Some NoDigit)) e in
    record { answer = n ∙ sym (ap granted q); after = sym (ap (λ o. unless o (frame_of (bytes_in cs)) f) q) }

frame_of_lem : (bs cs : List ℕ) (n : ℕ) → n ≤ length bs → drop n bs ≡ replicate (32 - n) 0 → bytes_in cs ≡ take n bs ++ [] → ◌≡◌ {A = Frame} (record { bytes = bs; len = n }) (frame_of (bytes_in cs))
frame_of_lem bs cs n l z e =
    let t : bytes_in cs ≡ take n bs = e ∙ append-nil (take n bs) in
    let m : length (bytes_in cs) ≡ n = ap length t ∙ length-take-le n bs l in
    let b : bs ≡ bytes_in cs ++ replicate (32 - length (bytes_in cs)) 0 = sym (take-append-drop n bs) ∙ ap (λ x. x ++ drop n bs) (sym t) ∙ ap (λ x. bytes_in cs ++ x) (z ∙ ap (λ k. replicate (32 - k) 0) (sym m)) in
    ap (λ k. record { bytes = bs; len = k }) (sym m) ∙ ap (λ x. record { bytes = x; len = length (bytes_in cs) }) b

pub accepted : (f : Frame) (bs cs : List ℕ) → wrong_size (length cs) ≡ false → length bs ≡ 32 → drop (length cs / 2) bs ≡ replicate (32 - length cs / 2) 0
    → bytes_in cs ≡ take (length cs / 2) bs ++ bytes_in (drop (2 * (length cs / 2)) cs) → all_digits cs ≡ all_digits (drop (2 * (length cs / 2)) cs) → Out f (record { bytes = bs; len = length cs / 2 }) cs (Ok tt)
accepted f bs cs s n z e d =
    let w = right_size (length cs) s in
    let all : drop (2 * (length cs / 2)) cs ≡ [] = drop_all (2 * (length cs / 2)) cs (omega arith) in
    let q : line_fault cs ≡ None = ap (λ b. cond b (Some WrongSize) (cond (all_digits cs) None (Some NoDigit))) s ∙ ap (λ b. cond b None (Some NoDigit)) (d ∙ ap all_digits all) in
    record {
      answer = sym (ap granted q);
      after = frame_of_lem bs cs (length cs / 2) (omega arith) z (e ∙ ap (λ r. take (length cs / 2) bs ++ bytes_in r) all) ∙ sym (ap (λ o. unless o (frame_of (bytes_in cs)) f) q);
    }

pub length_line : (bs : List ℕ) → length (line_of bs) ≡ 2 * length bs
length_line [] = refl
length_line (b ∷ bs) = let e = length_line bs in omega arith

line_append : (xs ys : List ℕ) → line_of (xs ++ ys) ≡ line_of xs ++ line_of ys
line_append [] ys = refl
line_append (x ∷ xs) ys = ap (λ r. letter_of (x / 16 % 16) ∷ letter_of (x % 16) ∷ r) (line_append xs ys)

pub line_more : (bs text : List ℕ) (i a b : ℕ) → i < length bs → i < 32 → a ≡ letter_of (get_or bs i 0 / 16 % 16) → b ≡ letter_of (get_or bs i 0 % 16) → text ≡ line_of (take i bs) ++ replicate (64 - 2 * i) 0
    → set (set text (2 * i) a) (2 * i + 1) b ≡ line_of (take (i + 1) bs) ++ replicate (64 - 2 * (i + 1)) 0
line_more bs text i a b l m p q e =
    let front = line_of (take i bs) in
    let rest : List ℕ = replicate (64 - 2 * (i + 1)) 0 in
    let n : length front ≡ 2 * i = length_line (take i bs) ∙ ap (λ k. 2 * k) (length-take-le i bs (omega arith)) in
    let k : 64 - 2 * i ≡ suc (suc (64 - 2 * (i + 1))) = omega arith in
    let zero_places : 2 * i - 2 * i ≡ 0 = omega arith in
    let one_place : 2 * i + 1 - 2 * i ≡ 1 = omega arith in
    ap (λ t. set (set t (2 * i) a) (2 * i + 1) b) (e ∙ ap (λ j. front ++ replicate j 0) k)
    ∙ ap (λ t. set t (2 * i + 1) b) (set-append_right front (0 ∷ 0 ∷ rest) (2 * i) (2 * i) a n (omega arith) ∙ ap (λ j. front ++ set (0 ∷ 0 ∷ rest) j a) zero_places)
    ∙ set-append_right front (a ∷ 0 ∷ rest) (2 * i) (2 * i + 1) b n (omega arith) ∙ ap (λ j. front ++ set (a ∷ 0 ∷ rest) j b) one_place
    ∙ sym (ap (λ t. line_of t ++ rest) (take_more bs i 0 l) ∙ ap (λ t. t ++ rest) (line_append (take i bs) (get_or bs i 0 ∷ [])) ∙ append_assoc front (letter_of (get_or bs i 0 / 16 % 16) ∷ letter_of (get_or bs i 0 % 16) ∷ []) rest ∙ sym (ap (λ x. front ++ x ∷ b ∷ rest) p ∙ ap (λ x. front ++ letter_of (get_or bs i 0 / 16 % 16) ∷ x ∷ rest) q))

pub line_all : (bs text : List ℕ) (i : ℕ) → i ≡ length bs → text ≡ line_of (take i bs) ++ replicate (64 - 2 * i) 0 → ◌≡◌ {A = Line} (record { text = text; len = 2 * length bs }) (typed (line_of bs))
line_all bs text i j t =
    let s : take i bs ≡ bs = take_all i bs (omega arith) in
    let m : length (line_of bs) ≡ 2 * length bs = length_line bs in
    let w : text ≡ line_of bs ++ replicate (64 - length (line_of bs)) 0 = t ∙ ap (λ x. line_of x ++ replicate (64 - 2 * i) 0) s ∙ ap (λ k. line_of bs ++ replicate (64 - k) 0) (ap (λ k. 2 * k) j ∙ sym m) in
    ap (λ k. record { text = text; len = k }) (sym m) ∙ ap (λ x. record { text = x; len = length (line_of bs) }) w
