-- The check byte: with it the sum is a multiple of 256, and only with it. Assumes nothing.
use Rattle.std.proofs.Common.{◌≡◌, ℕ, ◌+◌, ◌-◌, ◌%◌, ◌<◌, Bool, true, false, cond, eqb, List, [], ◌∷◌, ◌++◌, length, get_or, take, drop, Some, None, sym, refl, ap, ◌∙◌, arith}
use Rattle.std.specs.List.{fold, AllByRecursion}
use Rattle.std.proofs.ByRecursion.{All-get_or, All-push}
use Rattle.std.proofs.lemmas.List.{drop_more, drop_all, take-append-drop, length-append}
use Rattle.std.proofs.lemmas.Bool.{eq-eqb, eqb-true}
use Rattle.grades.specs.Places.{Byte}
use Rattle.frames.specs.declared.fault.FrameFault.TheVariants.{UnknownKind, WrongLength, WrongCheck}
use Rattle.frames.specs.Frames.{total, check_of, framed, frame_fault}

total_push : (xs : List ℕ) (y : ℕ) → total (xs ++ y ∷ []) ≡ total xs + y
total_push [] y = omega arith
total_push (x ∷ xs) y = let e = total_push xs y in omega arith

pub fold_total : (bs : List ℕ) (n : ℕ) → n < 256 → fold (λ sum b. (sum + b) % 256) n bs ≡ (n + total bs) % 256
fold_total [] n h = omega arith
fold_total (b ∷ bs) n h = let e = fold_total bs ((n + b) % 256) (omega arith) in omega arith

pub framed_sum : (xs : List ℕ) → total (framed xs) % 256 ≡ 0
framed_sum xs = let e = total_push xs (check_of xs) in omega arith

pub framed_bytes : (xs : List ℕ) → AllByRecursion Byte xs → AllByRecursion Byte (framed xs)
framed_bytes xs h = All-push Byte xs (check_of xs) h (omega arith)

pub length_framed : (xs : List ℕ) → length (framed xs) ≡ length xs + 1
length_framed xs = length-append xs (check_of xs ∷ [])

split_last : (bs : List ℕ) → 0 < length bs → take (length bs - 1) bs ++ get_or bs (length bs - 1) 0 ∷ [] ≡ bs
split_last bs h =
    let n = length bs - 1 in
    let l : n < length bs = omega arith in
    let e : drop (n + 1) bs ≡ [] = drop_all (n + 1) bs (omega arith) in
    sym (ap (λ r. take n bs ++ r) (drop_more bs n 0 l ∙ ap (λ r. get_or bs n 0 ∷ r) e)) ∙ take-append-drop n bs

pub unframed : (bs : List ℕ) → AllByRecursion Byte bs → 0 < length bs → total bs % 256 ≡ 0 → framed (take (length bs - 1) bs) ≡ bs
unframed bs h p s =
    let front = take (length bs - 1) bs in
    let last = get_or bs (length bs - 1) 0 in
    let byte : last < 256 = All-get_or Byte bs (length bs - 1) 0 (omega arith) h in
    let e : total front + last ≡ total bs = sym (total_push front last) ∙ ap total (split_last bs p) in
    let c : check_of front ≡ last = omega arith in
    ap (λ x. front ++ x ∷ []) c ∙ split_last bs p

none_means : (a b c : Bool) → cond a (cond b (cond c None (Some WrongCheck)) (Some WrongLength)) (Some UnknownKind) ≡ None → (a ≡ true) × (b ≡ true) × (c ≡ true)
none_means true true true e = (refl, refl, refl)
none_means true true false e = let z : ◌≡◌ {A = ℕ} 0 1 = cc in absurd (omega arith)
none_means true false c e = let z : ◌≡◌ {A = ℕ} 0 1 = cc in absurd (omega arith)
none_means false b c e = let z : ◌≡◌ {A = ℕ} 0 1 = cc in absurd (omega arith)

pub frame_means : (known : Bool) (n : ℕ) (bs : List ℕ) → frame_fault known n bs ≡ None → (known ≡ true) × (length bs ≡ n) × (total bs % 256 ≡ 0)
frame_means known n bs e =
    let m = none_means known (eqb (length bs) n) (eqb (total bs % 256) 0) e in
    (m.0, eqb-true (length bs) n m.1, eqb-true (total bs % 256) 0 m.2)

pub frame_granted : (known : Bool) (n : ℕ) (bs : List ℕ) → known ≡ true → length bs ≡ n → total bs % 256 ≡ 0 → frame_fault known n bs ≡ None
frame_granted known n bs k l s =
    ap (λ a. cond a (cond (eqb (length bs) n) (cond (eqb (total bs % 256) 0) None (Some WrongCheck)) (Some WrongLength)) (Some UnknownKind)) k
    ∙ ap (λ b. cond b (cond (eqb (total bs % 256) 0) None (Some WrongCheck)) (Some WrongLength)) (eq-eqb (length bs) n l)
    ∙ ap (λ c. cond c None (Some WrongCheck)) (eq-eqb (total bs % 256) 0 s)
