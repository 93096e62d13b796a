-- A row of bytes with its check byte is the frame of those bytes, and its line is theirs. Assumes nothing.
use Rattle.std.proofs.Common.{◌≡◌, ℕ, suc, ◌+◌, ◌-◌, ◌≤◌, List, [], ◌∷◌, ◌++◌, length, take, drop, set, replicate, sym, refl, ap, ◌∙◌, arith}
use Rattle.std.proofs.lemmas.List.{append_assoc, append-nil, length-replicate, drop-replicate, drop_all, drop_at, length-append, set_at, take_all, take_at}
use borrow.Rule.Slice.PartMut.{put_mid}
use Rattle.grades.specs.Places.{onto}
use Rattle.frames.specs.declared.frame.Frame.{Frame}
use Rattle.frames.specs.Frames.{framed, check_of}
use Rattle.frames.specs.Lines.{padded, frame_of, typed, shown}
use Rattle.frames.proofs.Checks.{length_framed}

pub sealed : (xs bs : List ℕ) (n c : ℕ) → n ≤ 32 → length xs + 1 ≡ n → bs ≡ padded xs → c ≡ check_of (take (n - 1) bs) → ◌≡◌ {A = Frame} (record { bytes = set bs (n - 1) c; len = n }) (frame_of (framed xs))
sealed xs bs n c m l e p =
    let i : n - 1 ≡ length xs = omega arith in
    let zeros : List ℕ = replicate (32 - n) 0 in
    let k : 32 - length xs ≡ suc (32 - n) = omega arith in
    let long : length (framed xs) ≡ n = length_framed xs ∙ l in
    let front : take (n - 1) bs ≡ xs = ap (λ j. take j bs) i ∙ ap (take (length xs)) e ∙ take_at xs (replicate (32 - length xs) 0) (length xs) refl in
    let whole : bs ≡ xs ++ 0 ∷ zeros = e ∙ ap (λ j. xs ++ replicate j 0) k in
    let put : set bs (n - 1) c ≡ padded (framed xs) =
    ap (λ b. set b (n - 1) c) whole ∙ set_at xs 0 zeros c (n - 1) (sym i) ∙ ap (λ x. xs ++ x ∷ zeros) (p ∙ ap check_of front)
    ∙ sym (append_assoc xs (check_of xs ∷ []) zeros) ∙ ap (λ j. framed xs ++ replicate (32 - j) 0) (sym long) in
    ap (λ b. record { bytes = b; len = n }) put ∙ ap (λ j. record { bytes = padded (framed xs); len = j }) (sym long)

onto_zeros : (xs : List ℕ) (n : ℕ) → length xs ≤ n → onto xs (replicate n 0) ≡ xs ++ replicate (n - length xs) 0
onto_zeros xs n h =
    let m : length (replicate {A = ℕ} n 0) ≡ n = length-replicate n 0 in
    ap (λ t. t ++ drop (length xs) (replicate n 0)) (take_all (length (replicate n 0)) xs (omega arith)) ∙ ap (λ t. xs ++ t) (drop-replicate (length xs) n 0)

-- one part more behind those before it
pub part_more : (xs part row places : List ℕ) (n : ℕ) → length xs ≡ n → n + length part ≤ 32 → row ≡ padded xs → places ≡ onto part (take (32 - n) (drop n row)) → put_mid n (32 - n) row places ≡ padded (xs ++ part)
part_more xs part row places n l h e w =
    let zeros : List ℕ = replicate (32 - length xs) 0 in
    let room : 32 - length xs ≡ 32 - n = omega arith in
    let long : length zeros ≡ 32 - n = length-replicate (32 - length xs) 0 ∙ room in
    let front : take n row ≡ xs = ap (take n) e ∙ take_at xs zeros n l in
    let rest : drop n row ≡ zeros = ap (drop n) e ∙ drop_at xs zeros n l in
    let lent : take (32 - n) (drop n row) ≡ zeros = ap (take (32 - n)) rest ∙ take_all (32 - n) zeros (omega arith) in
    let behind : drop (32 - n) (drop n row) ≡ [] = ap (drop (32 - n)) rest ∙ drop_all (32 - n) zeros (omega arith) in
    let less : 32 - length xs - length part ≡ 32 - length (xs ++ part) = (let m = length-append xs part in omega arith) in
    let written : places ≡ part ++ replicate (32 - length (xs ++ part)) 0 = w ∙ ap (onto part) lent ∙ onto_zeros part (32 - length xs) (omega arith) ∙ ap (λ k. part ++ replicate k 0) less in
    ap (λ t. t ++ (places ++ drop (32 - n) (drop n row))) front ∙ ap (λ t. xs ++ (places ++ t)) behind ∙ ap (λ t. xs ++ t) (append-nil places ∙ written) ∙ sym (append_assoc xs part (replicate (32 - length (xs ++ part)) 0))

-- the characters of a typed line are those typed
pub shown_typed : (cs : List ℕ) → shown (typed cs) ≡ cs
shown_typed cs = take_at cs (replicate (64 - length cs) 0) (length cs) refl
