-- A list written over the front of another. Assumes nothing.
use Rattle.std.proofs.Common.{◌≡◌, ℕ, ◌+◌, ◌<◌, ◌≤◌, min, List, [], ◌∷◌, ◌++◌, length, get_or, take, drop, set, sym, refl, ap, ◌∙◌, inl, inr, arith}
use Rattle.std.proofs.lemmas.List.{take_more, drop_more, set_at, append_assoc, length-append, length-take-le, take_all, drop_all, take-append-le}
use Rattle.std.proofs.lemmas.Bool.{cases_lt}
use Rattle.std.proofs.lemmas.Grind.{common_steps}
use Rattle.grades.specs.Places.{onto}

-- one more of xs written, with i written so far
pub onto_more : {X : Type 0} (xs ys : List X) (i : ℕ) (x : X) → i < length xs → i < length ys → x ≡ get_or xs i x → set (take i xs ++ drop i ys) i x ≡ take (i + 1) xs ++ drop (i + 1) ys
onto_more xs ys i x a b e =
    ap (λ t. set (take i xs ++ t) i x) (drop_more ys i x b)
    ∙ set_at (take i xs) (get_or ys i x) (drop (i + 1) ys) x i (length-take-le i xs (omega arith))
    ∙ sym (ap (λ t. t ++ drop (i + 1) ys) (take_more xs i x a ∙ ap (λ y. take i xs ++ y ∷ []) (sym e)) ∙ append_assoc (take i xs) (x ∷ []) (drop (i + 1) ys))

pub onto_all : {X : Type 0} (xs ys : List X) (i : ℕ) → i ≡ min (length xs) (length ys) → take i xs ++ drop i ys ≡ onto xs ys
onto_all xs ys i e = elim (cases_lt (length xs) (length ys)) [
  | inl h ↦ (let f : i ≡ length xs = omega arith in rw f (ap (λ t. t ++ drop (length xs) ys) (take_all (length xs) xs (omega arith) ∙ sym (take_all (length ys) xs (omega arith)))))
  | inr h ↦ (let f : i ≡ length ys = omega arith in rw f (ap (λ t. take (length ys) xs ++ t) (drop_all (length ys) ys (omega arith) ∙ sym (drop_all (length xs) ys h))))
]

pub onto_nil : {X : Type 0} (ys : List X) → onto [] ys ≡ ys
onto_nil ys = grind (arith, common_steps)

-- one more element, with room and without
pub onto_push : {X : Type 0} (xs ys : List X) (x : X) → length xs < length ys → set (onto xs ys) (length xs) x ≡ onto (xs ++ x ∷ []) ys
onto_push xs ys x h =
    let m : length (xs ++ x ∷ []) ≡ length xs + 1 = length-append xs (x ∷ []) in
    ap (λ t. set (t ++ drop (length xs) ys) (length xs) x) (take_all (length ys) xs (omega arith))
    ∙ ap (λ t. set (xs ++ t) (length xs) x) (drop_more ys (length xs) x h)
    ∙ set_at xs (get_or ys (length xs) x) (drop (length xs + 1) ys) x (length xs) refl
    ∙ sym (ap (λ t. t ++ drop (length (xs ++ x ∷ [])) ys) (take_all (length ys) (xs ++ x ∷ []) (omega arith))
    ∙ ap (λ t. (xs ++ x ∷ []) ++ drop t ys) m
    ∙ append_assoc xs (x ∷ []) (drop (length xs + 1) ys))

pub onto_full : {X : Type 0} (xs ys : List X) (x : X) → length ys ≤ length xs → onto xs ys ≡ onto (xs ++ x ∷ []) ys
onto_full xs ys x h =
    let m : length (xs ++ x ∷ []) ≡ length xs + 1 = length-append xs (x ∷ []) in
    ap (λ t. take (length ys) xs ++ t) (drop_all (length xs) ys h ∙ sym (drop_all (length (xs ++ x ∷ [])) ys (omega arith)))
    ∙ ap (λ t. t ++ drop (length (xs ++ x ∷ [])) ys) (sym (take-append-le (length ys) xs (x ∷ []) h))

pub length_onto : {X : Type 0} (xs ys : List X) → length (onto xs ys) ≡ length ys
length_onto xs ys = grind (arith, common_steps)
