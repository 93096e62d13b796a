-- A row of the square, read in strips of eight bytes, and copied strip by strip. Assumes nothing.
use Rattle.std.proofs.Common.{◌≡◌, ℕ, zero, suc, ◌+◌, ◌-◌, ◌*◌, ◌/◌, ◌%◌, ◌<◌, ◌≤◌, min, false, cond, List, [], ◌∷◌, ◌++◌, length, get_or, take, drop, filter, sym, ap, ◌∙◌, ap₂, inl, inr, arith}
use Rattle.std.specs.List.{range_with_len}
use Rattle.std.proofs.Math.Seq.{drop-nil}
use Rattle.std.proofs.lemmas.Bool.{cases_lt, lt-ltb, le-ltb}
use Rattle.std.proofs.lemmas.List.{append-nil, take_all, drop_all, drop-drop, drop_at, length-append, length-drop, length-take-le, get_or-take, get_or-drop, get_or_append_left, get_or_past}
use Rattle.std.proofs.lemmas.Nat.{mul-le}
use Rattle.grades.specs.Places.{onto}
use Rattle.grades.proofs.Fronts.{onto_nil, length_onto}
use Rattle.networks.proofs.Rising.{kept_none, kept_past}
use Rattle.matrix.specs.Bits.{stride, place, row_of, bit_of, bit_at, spare_at}
use Rattle.matrix.specs.Words.{set_bits}
use Rattle.matrix.proofs.Bytes.{no_bit, set_kept}
use Rattle.matrix.proofs.Squares.{row_bit, bit_past, bit_nobody}

-- the first eight of what is left, and the rest
front_byte : (rest bs after : List ℕ) (k : ℕ) → rest ≡ bs ++ after → length bs ≡ min 8 (length rest) → k < 8 → get_or bs k 0 ≡ get_or rest k 0
front_byte rest bs after k e l h = elim (cases_lt k (length bs)) [
  | inl in' ↦ sym (ap (λ t. get_or t k 0) e ∙ get_or_append_left bs after 0 k in')
  | inr out ↦ get_or_past bs k 0 out ∙ sym (get_or_past rest k 0 (omega arith))
]

pub cut_rest : (xs bs after : List ℕ) (i : ℕ) → drop (8 * i) xs ≡ bs ++ after → length bs ≡ min 8 (length (drop (8 * i) xs)) → after ≡ drop (8 * (i + 1)) xs
cut_rest xs bs after i e h =
    let rest = drop (8 * i) xs in
    let next : drop 8 rest ≡ drop (8 * (i + 1)) xs = drop-drop 8 (8 * i) xs ∙ ap (λ k. drop k xs) (omega arith) in
    let long = ap length e ∙ length-append bs after in
    elim (cases_lt (length bs) 8) [
      | inl few ↦ drop_all 0 after (omega arith) ∙ sym (drop_all 8 rest (omega arith)) ∙ next
      | inr all ↦ sym (ap (drop 8) e ∙ drop_at bs after 8 (omega arith)) ∙ next
    ]

module _ (n : ℕ) (bits : List ℕ) (u : ℕ) where
  row_there : u < n → row_of n bits u ≡ take (stride n) (drop (u * stride n) bits)
  row_there h = ap (λ b. cond b (take (stride n) (drop (u * stride n) bits)) []) (lt-ltb u n h)

  row_none : n ≤ u → row_of n bits u ≡ []
  row_none h = ap (λ b. cond b (take (stride n) (drop (u * stride n) bits)) []) (le-ltb u n h)

  -- a row with bytes is a person's
  pub row_person : (m : ℕ) → 0 < length (drop m (row_of n bits u)) → u < n
  row_person m h = elim (cases_lt u n) [
    | inl l ↦ l
    | inr l ↦ absurd (omega (arith, ap length (ap (drop m) (row_none l) ∙ drop-nil m)))
  ]

  module _ (room : n * stride n ≤ length bits) where
    pub row_length : u < n → length (row_of n bits u) ≡ stride n
    row_length h = ap length (row_there h) ∙ length-take-le (stride n) (drop (u * stride n) bits)
        (omega (arith, length-drop (u * stride n) bits, mul-le (u + 1) (stride n) n (stride n) (omega arith) (omega arith)))

    pub few_strips : n ≤ 4096 → (i : ℕ) → 0 < length (drop (8 * i) (row_of n bits u)) → 64 * i ≤ 4096
    few_strips few i h = omega (arith, length-drop (8 * i) (row_of n bits u), row_length (row_person (8 * i) h))

    -- all strips are read
    pub row_whole : (m : ℕ) → length (drop (8 * m) (row_of n bits u)) ≡ 0 → filter (bit_at n bits u) (range_with_len 0 (64 * m)) ≡ filter (bit_at n bits u) (range_with_len 0 n)
    row_whole m h = elim (cases_lt u n) [
      | inl l ↦ kept_past (bit_at n bits u) n (64 * m) (omega (arith, length-drop (8 * m) (row_of n bits u), row_length l)) (λ v p. bit_past n bits u v p)
      | inr l ↦ kept_none (bit_at n bits u) 0 (64 * m) (λ v p. bit_nobody n bits u v l) ∙ sym (kept_none (bit_at n bits u) 0 n (λ v p. bit_nobody n bits u v l))
    ]

    module _ (i : ℕ) (clear : (x y : ℕ) → spare_at n bits x y ≡ false) (bs after : List ℕ) (w : ℕ)
        (cut : drop (8 * i) (row_of n bits u) ≡ bs ++ after) (long : length bs ≡ min 8 (length (drop (8 * i) (row_of n bits u)))) (some : 0 < length (drop (8 * i) (row_of n bits u)))
        (read : (j : ℕ) → bit_of w j ≡ bit_of (get_or bs (j / 8) 0) (j % 8)) where
      byte : (k : ℕ) → k < 8 → get_or bs k 0 ≡ get_or (take (stride n) (drop (u * stride n) bits)) (8 * i + k) 0
      byte k h = front_byte (drop (8 * i) (row_of n bits u)) bs after k cut long h ∙ get_or-drop (8 * i) (row_of n bits u) k 0 ∙ ap (λ t. get_or t (8 * i + k) 0) (row_there (row_person (8 * i) some))

      -- the bit j of the strip is that of the person 64 * i + j
      strip_bit : (j : ℕ) → j < 64 → bit_of w j ≡ bit_at n bits u (64 * i + j)
      strip_bit j h =
          let v = 64 * i + j in
          let person = row_person (8 * i) some in
          let at = 8 * i + j / 8 in
          let row = take (stride n) (drop (u * stride n) bits) in
          let k : j / 8 < 8 = omega arith in
          let q : u * stride n + at ≡ place n u v = omega arith in
          let r : j % 8 ≡ v % 8 = omega arith in
          let raw : bit_of w j ≡ bit_of (get_or row at 0) (v % 8) = read j ∙ ap₂ bit_of (byte (j / 8) k) r in
          elim (cases_lt at (stride n)) [
            | inl in' ↦ raw ∙ ap (λ t. bit_of t (v % 8)) (get_or-take (stride n) (drop (u * stride n) bits) at 0 in' ∙ get_or-drop (u * stride n) bits at 0 ∙ ap (λ t. get_or bits t 0) q)
                ∙ sym (row_bit n bits u v (clear u v) person (omega arith))
            | inr out ↦ raw ∙ ap (λ t. bit_of t (v % 8)) (get_or_past row at 0 (omega (arith, ap length (row_there person), row_length person))) ∙ no_bit (v % 8) ∙ sym (bit_past n bits u v (omega arith))
          ]

      pub strip_kept : set_bits 64 (64 * i) w ≡ filter (bit_at n bits u) (range_with_len (64 * i) 64)
      strip_kept = set_kept 64 (64 * i) w (bit_at n bits u) strip_bit

-- more written behind what was
onto_then : {X : Type 0} (xs zs ys : List X) (at : ℕ) → at ≡ min (length xs) (length ys) → take at (onto xs ys) ++ onto zs (drop at (onto xs ys)) ≡ onto (xs ++ zs) ys
onto_then [] zs ys zero e = ap (onto zs) (onto_nil ys)
onto_then [] zs ys (suc at) e = absurd (omega arith)
onto_then (x ∷ xs) zs [] zero e = drop-nil (length zs)
onto_then (x ∷ xs) zs [] (suc at) e = absurd (omega arith)
onto_then (x ∷ xs) zs (y ∷ ys) zero e = absurd (omega arith)
onto_then (x ∷ xs) zs (y ∷ ys) (suc at) e = ap (λ t. x ∷ t) (onto_then xs zs ys at (omega arith))

pub onto_part : {X : Type 0} (xs zs ys places part : List X) (at : ℕ) → places ≡ onto xs ys → at ≡ min (length xs) (length places) → part ≡ onto zs (take (length places - at) (drop at places))
    → take at places ++ (part ++ drop (length places - at) (drop at places)) ≡ onto (xs ++ zs) ys
onto_part xs zs ys places part at e a p =
    let rest = drop at places in
    let all = take_all (length places - at) rest (omega (arith, length-drop at places)) in
    let none = drop_all (length places - at) rest (omega (arith, length-drop at places)) in
    ap (λ t. take at places ++ t) (ap₂ (λ a b. a ++ b) (p ∙ ap (onto zs) all) none ∙ append-nil (onto zs rest))
    ∙ ap (λ t. take at t ++ onto zs (drop at t)) e
    ∙ onto_then xs zs ys at (omega (arith, ap length e, length_onto xs ys))
