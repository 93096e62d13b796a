-- A tidy row stays tidy when a number enters or leaves. Assumes nothing.
use Rattle.std.proofs.Common.{◌≡◌, ℕ, suc, ◌+◌, ◌-◌, ◌<◌, ◌≤◌, Bool, true, false, cond, not, ◌&&◌, ◌||◌, eqb, ltb, List, [], ◌∷◌, ◌++◌, length, drop, filter, sym, refl, ap, ◌∙◌, ap₂, inl, inr, arith}
use Rattle.std.specs.List.{range_with_len, insert, remove}
use Rattle.std.proofs.lemmas.List.Elements.{filter-append}
use Rattle.std.proofs.lemmas.List.{append_assoc, drop_at, take_at, length-append}
use Rattle.std.proofs.lemmas.Bool.{cases_lt, lt-ltb, le-ltb, eq-eqb, ne_eqb, and_left, and_right, or_from}
use Rattle.rows.specs.Row.{has, Tidy, place_of}
use Rattle.rows.proofs.Sieve.{counting_around, has_kept, kept_agree, place_kept}

-- xs with v put in at its place, and with the number there taken out
abbrev pub entered : ℕ → List ℕ → List ℕ
entered v xs = insert xs (place_of v xs) v

abbrev pub leaving : ℕ → List ℕ → List ℕ
leaving v xs = remove xs (place_of v xs)

pub has_outside : (n : ℕ) (xs : List ℕ) → Tidy n xs → (w : ℕ) → n ≤ w → has w xs ≡ false
has_outside n xs t w h = ap (has w) t ∙ has_kept (λ v. has v xs) n w ∙ and_left (ltb w n) (has w xs) (le-ltb w n h)

-- those below n that pass a test are tidy, and stand there just when they pass
pub tidy_kept : (n : ℕ) (q : ℕ → Bool) (ys : List ℕ) → ys ≡ filter q (range_with_len 0 n) → Tidy n ys
tidy_kept n q ys e = e ∙ kept_agree q (λ w. has w ys) 0 n (λ w l h. sym (ap (has w) e ∙ has_kept q n w ∙ ap (λ b. b && q w) (lt-ltb w n (omega arith))))

pub passes : (n : ℕ) (q : ℕ → Bool) (ys : List ℕ) → ys ≡ filter q (range_with_len 0 n) → ((w : ℕ) → n ≤ w → q w ≡ false) → (w : ℕ) → has w ys ≡ q w
passes n q ys e none w = ap (has w) e ∙ has_kept q n w ∙ elim (cases_lt w n) [
  | inl h ↦ ap (λ b. b && q w) (lt-ltb w n h)
  | inr h ↦ and_right (ltb w n) (q w) (none w h) ∙ sym (none w h)
]

module _ (n v : ℕ) (inside : v < n) where
  abbrev below : (ℕ → Bool) → List ℕ
  below q = filter q (range_with_len 0 v)

  abbrev above : (ℕ → Bool) → List ℕ
  above q = filter q (range_with_len (v + 1) (n - (v + 1)))

  around : (q : ℕ → Bool) → filter q (range_with_len 0 n) ≡ below q ++ cond (q v) (v ∷ above q) (above q)
  around q = ap (filter q) (counting_around n v inside) ∙ filter-append q (range_with_len 0 v) (v ∷ range_with_len (v + 1) (n - (v + 1)))

  module _ (p q : ℕ → Bool) (same : (w : ℕ) → (w ≡ v → ⊥) → p w ≡ q w) where
    agree_below : below p ≡ below q
    agree_below = kept_agree p q 0 v (λ w l h. same w (λ e. omega arith))

    agree_above : above p ≡ above q
    agree_above = kept_agree p q (v + 1) (n - (v + 1)) (λ w l h. same w (λ e. omega arith))

  module _ (xs : List ℕ) (tidy : Tidy n xs) where
    abbrev here : ℕ → Bool
    here w = has w xs

    place : place_of v xs ≡ length (below here)
    place = ap (place_of v) tidy ∙ place_kept here n v inside

    enters : has v xs ≡ false → entered v xs ≡ filter (λ w. eqb w v || here w) (range_with_len 0 n)
    enters free =
        let q : ℕ → Bool = λ w. eqb w v || here w in
        let apart = tidy ∙ around here ∙ ap (λ b. below here ++ cond b (v ∷ above here) (above here)) free in
        let same : (w : ℕ) → (w ≡ v → ⊥) → here w ≡ q w = λ w ne. sym (ap (λ b. b || here w) (ne_eqb w v ne)) in
        ap₂ (λ t i. insert t i v) apart place
        ∙ ap₂ (λ a b. a ++ v ∷ b) (take_at (below here) (above here) (length (below here)) refl) (drop_at (below here) (above here) (length (below here)) refl)
        ∙ ap₂ (λ a b. a ++ v ∷ b) (agree_below here q same) (agree_above here q same)
        ∙ sym (around q ∙ ap (λ b. below q ++ cond (b || has v xs) (v ∷ above q) (above q)) (eq-eqb v v refl))

    leaves : has v xs ≡ true → leaving v xs ≡ filter (λ w. not (eqb w v) && here w) (range_with_len 0 n)
    leaves held =
        let q : ℕ → Bool = λ w. not (eqb w v) && here w in
        let apart = tidy ∙ around here ∙ ap (λ b. below here ++ cond b (v ∷ above here) (above here)) held in
        let same : (w : ℕ) → (w ≡ v → ⊥) → here w ≡ q w = λ w ne. sym (ap (λ b. not b && here w) (ne_eqb w v ne)) in
        let one : length (below here ++ v ∷ []) ≡ suc (length (below here)) = omega (arith, length-append (below here) (v ∷ [])) in
        ap₂ remove apart place
        ∙ ap₂ (λ a b. a ++ b) (take_at (below here) (v ∷ above here) (length (below here)) refl)
        (ap (drop (suc (length (below here)))) (sym (append_assoc (below here) (v ∷ []) (above here))) ∙ drop_at (below here ++ v ∷ []) (above here) (suc (length (below here))) one)
        ∙ ap₂ (λ a b. a ++ b) (agree_below here q same) (agree_above here q same)
        ∙ sym (around q ∙ ap (λ b. below q ++ cond (not b && has v xs) (v ∷ above q) (above q)) (eq-eqb v v refl))

    pub tidy_entered : has v xs ≡ false → Tidy n (entered v xs)
    tidy_entered free = tidy_kept n (λ w. eqb w v || here w) (entered v xs) (enters free)

    pub has_entered : has v xs ≡ false → (w : ℕ) → has w (entered v xs) ≡ (eqb w v || here w)
    has_entered free = passes n (λ w. eqb w v || here w) (entered v xs) (enters free)
        (λ w h. or_from (eqb w v) (here w) (ne_eqb w v (omega arith)) (has_outside n xs tidy w h))

    pub tidy_leaving : has v xs ≡ true → Tidy n (leaving v xs)
    tidy_leaving held = tidy_kept n (λ w. not (eqb w v) && here w) (leaving v xs) (leaves held)

    pub has_leaving : has v xs ≡ true → (w : ℕ) → has w (leaving v xs) ≡ (not (eqb w v) && here w)
    has_leaving held = passes n (λ w. not (eqb w v) && here w) (leaving v xs) (leaves held)
        (λ w h. and_right (not (eqb w v)) (here w) (has_outside n xs tidy w h))
