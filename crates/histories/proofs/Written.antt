-- A written listing, read back. Assumes nothing.
use Rattle.std.proofs.Common.{◌≡◌, ℕ, suc, ◌+◌, ◌≤◌, List, [], ◌∷◌, ◌++◌, length, take, drop, Some, None, Option, Result, sym, refl, ap, ◌∙◌, arith}
use Rattle.std.proofs.lemmas.List.{length-append, take_all, append_assoc}
use Rattle.std.proofs.Math.Seq.{drop-append_seam, take-append_seam}
use Rattle.faults.specs.Answers.{answered, unless}
use Rattle.faults.specs.declared.call_fault.CallFault.{CallFault}
use Rattle.grades.specs.Places.{onto}
use Rattle.theory.specs.Listing.{Entry}
use Rattle.queries.specs.declared.head.Head.{Head}
use Rattle.queries.specs.Written.{head_of, heads_from, heads_of, members_of}
use Rattle.histories.specs.Answers.{circles, said}
use Rattle.histories.specs.Reading.{circle_in, circles_in, told_circles}

pub length_heads : (place : ℕ) (es : List Entry) → length (heads_from place es) ≡ length es
length_heads place [] = refl
length_heads place (e ∷ es) = ap suc (length_heads (place + length e.1) es)

-- the front of the places that a list was written over is the list
pub front_onto : {X : Type 0} (xs ys : List X) → length xs ≤ length ys → take (length xs) (onto xs ys) ≡ xs
front_onto xs ys h = ap (λ t. take (length xs) (t ++ drop (length xs) ys)) (take_all (length ys) xs h) ∙ take-append_seam xs (drop (length xs) ys)

reads_from : (before : List ℕ) (es : List Entry) (behind : List ℕ) → circles_in (heads_from (length before) es) (before ++ (members_of es ++ behind)) ≡ es
reads_from before [] behind = refl
reads_from before (e ∷ es) behind =
    let whole = before ++ ((e.1 ++ members_of es) ++ behind) in
    let first : drop (length before) whole ≡ e.1 ++ (members_of es ++ behind) = drop-append_seam before ((e.1 ++ members_of es) ++ behind) ∙ append_assoc e.1 (members_of es) behind in
    let mine : circle_in whole (head_of e (length before)) ≡ e = ap (λ t. (e.0, t)) (ap (take (length e.1)) first ∙ take-append_seam e.1 (members_of es ++ behind)) in
    let same : (before ++ e.1) ++ (members_of es ++ behind) ≡ whole = append_assoc before e.1 (members_of es ++ behind) ∙ ap (λ t. before ++ t) (sym (append_assoc e.1 (members_of es) behind)) in
    let rest : circles_in (heads_from (length before + length e.1) es) whole ≡ es =
    ap (λ t. circles_in (heads_from t es) whole) (sym (length-append before e.1))
    ∙ ap (circles_in (heads_from (length (before ++ e.1)) es)) (sym same) ∙ reads_from (before ++ e.1) es behind in
    ap (λ t. t ∷ circles_in (heads_from (length before + length e.1) es) whole) mine ∙ ap (λ t. e ∷ t) rest

pub reads_back : (es : List Entry) (members : List ℕ) → length (members_of es) ≤ length members → circles_in (heads_of es) (onto (members_of es) members) ≡ es
reads_back es members h =
    ap (λ t. circles_in (heads_of es) (t ++ drop (length (members_of es)) members)) (take_all (length members) (members_of es) h)
    ∙ reads_from [] es (drop (length (members_of es)) members)

pub told_listing : (o : Option CallFault) (r : Result ℕ CallFault) (es : List Entry) (H : List Head) (M : List ℕ) (heads : List Head) (members : List ℕ)
    → (o ≡ None → (length es ≤ length H) × (length (members_of es) ≤ length M))
    → r ≡ answered o (length es) → heads ≡ unless o (onto (heads_of es) H) H → members ≡ unless o (onto (members_of es) M) M
    → told_circles r heads members ≡ said o (circles es)
told_listing None r es H M heads members room a b c =
    ap (λ t. told_circles t heads members) a
    ∙ ap (λ t. circles (circles_in (take (length es) t) members)) b
    ∙ ap (λ t. circles (circles_in t members)) (ap (λ n. take n (onto (heads_of es) H)) (sym (length_heads 0 es)) ∙ front_onto (heads_of es) H (omega (arith, length_heads 0 es, (room refl).0)))
    ∙ ap (λ t. circles (circles_in (heads_of es) t)) c
    ∙ ap circles (reads_back es M (room refl).1)
told_listing (Some f) r es H M heads members room a b c = ap (λ t. told_circles t heads members) a
