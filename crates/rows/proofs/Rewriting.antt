-- One row of the memory rewritten: the other rows, and what lies behind, stay. Assumes nothing.
use Rattle.std.proofs.Common.{◌≡◌, ℕ, ◌+◌, ◌*◌, ◌<◌, ◌≤◌, Bool, cond, ◌&&◌, eqb, ltb, List, length, get_or, take, drop, set, vec_items, sym, ap, ◌∙◌, subst, ap₂, inl, inr, arith}
use borrow.Rule.Slice.PartMut.{put_mid, same_len_mid}
use Rattle.std.proofs.lemmas.List.{drop_at, drop-set-lt, drop-take, get_or-set_same, get_or-set_other, length-drop, length-set, length-take-le, take_at, take-take}
use Rattle.std.proofs.lemmas.Slice.{drop-put_mid, take-put_mid_below}
use Rattle.std.proofs.lemmas.Bool.{cases_lt, cases_eq, lt-ltb, eq-eqb, ne_eqb}
use Rattle.rows.specs.declared.tidy.TidyRows.{TidyRows}
use Rattle.rows.specs.Row.{has, Tidy, row_of}
use Rattle.rows.specs.Rows.{Frame, linked_in, frame_in}
use Rattle.rows.specs.Tidy.{links, frame}
use Rattle.rows.proofs.Keeping.{Kept, lies}
use Rattle.rows.proofs.Neighbourhoods.{nobody_linked}
use Rattle.rows.proofs.Stretches.{row_ends}

-- the memory with the links f, and all else as it was
pub record Becomes (s : TidyRows) (f : ℕ → ℕ → Bool) (counts cells : List ℕ) : Type 0 where
  pub kept : Kept s.n s.span counts cells
  pub linked : (x y : ℕ) → linked_in s.n s.span counts cells x y ≡ f x y
  pub framed : frame_in s.n s.span counts cells ≡ frame s

-- k cells of the row of u are written as `new`, which begins with the row xs
module _ (s : TidyRows) (u k : ℕ) (inside : u < s.n) (fits : k ≤ s.span) (new xs : List ℕ) (long : length new ≡ k) (less : length xs ≤ k) (front : take (length xs) new ≡ xs) where
  abbrev first : ℕ
  first = u * s.span

  abbrev counts : List ℕ
  counts = vec_items s.counts

  abbrev cells : List ℕ
  cells = vec_items s.cells

  abbrev counts' : List ℕ
  counts' = set counts u (length xs)

  abbrev cells' : List ℕ
  cells' = put_mid first k cells new

  cells_long : length cells' ≡ length cells
  cells_long = let l = lies s u inside in same_len_mid first k cells new (long ∙ sym (length-take-le k (drop first cells) (omega (arith, length-drop first cells))))

  row_here : row_of s.span counts' cells' u ≡ xs
  row_here =
      let l = lies s u inside in
      ap (λ c. take c (drop first cells')) (get_or-set_same counts u (length xs) 0 l.known)
      ∙ sym (take-take (length xs) k (drop first cells') less)
      ∙ ap (take (length xs)) (ap (take k) (drop_at (take first cells) _ first (length-take-le first cells (omega arith))) ∙ take_at new _ k long)
      ∙ front

  row_there : (w : ℕ) → w < s.n → (w ≡ u → ⊥) → row_of s.span counts' cells' w ≡ row_of s.span counts cells w
  row_there w known ne =
      let l = lies s u inside in
      let m = lies s w known in
      let c = get_or counts w 0 in
      ap (λ c. take c (drop (w * s.span) cells')) (get_or-set_other counts u w (length xs) 0 ne) ∙ elim (cases_lt w u) [
        | inl h ↦ (let e : w * s.span + c ≤ first = omega (arith, row_ends w u s.span h) in
            sym (drop-take (w * s.span) c cells') ∙ ap (drop (w * s.span)) (take-put_mid_below first k cells new (w * s.span + c) e (omega arith)) ∙ drop-take (w * s.span) c cells)
        | inr h ↦ ap (take c) (drop-put_mid first k cells new (w * s.span) (omega (arith, row_ends u w s.span (omega arith))) (omega arith) long)
      ]

  still_kept : Tidy s.n xs → Kept s.n s.span counts' cells'
  still_kept tidy = record {
    counted = omega (arith, length-set counts u (length xs), s.counted);
    roomy = omega (arith, cells_long, s.roomy);
    within = λ w h. elim (cases_eq w u) [
      | inl e ↦ (let l = lies s u inside in omega (arith, ap (λ i. get_or counts' i 0) e, get_or-set_same counts u (length xs) 0 l.known))
      | inr ne ↦ omega (arith, get_or-set_other counts u w (length xs) 0 ne, s.within w h)
    ];
    listed = λ w h. elim (cases_eq w u) [
      | inl e ↦ subst (Tidy s.n) (sym (ap (row_of s.span counts' cells') e ∙ row_here)) tidy
      | inr ne ↦ subst (Tidy s.n) (sym (row_there w h ne)) (s.listed w h)
    ];
  }

  still_framed : frame_in s.n s.span counts' cells' ≡ frame s
  still_framed =
      let l = lies s u inside in
      let of : ℕ → ℕ → List ℕ → List ℕ → Frame = λ k c ks cs. record { persons = s.n; span = s.span; counts = k; cells = c; counts_behind = ks; cells_behind = cs } in
      ap₂ (λ k c. of k c (drop s.n counts') (drop (s.n * s.span) cells')) (length-set counts u (length xs)) cells_long
      ∙ ap₂ (of (length counts) (length cells)) (drop-set-lt s.n counts u (length xs) inside) (drop-put_mid first k cells new (s.n * s.span) (omega (arith, row_ends u s.n s.span inside)) (omega arith) long)

  -- the links of u are the new row's, the others stay
  relinked : (q : ℕ → Bool) → ((y : ℕ) → has y xs ≡ q y) → (x y : ℕ) → linked_in s.n s.span counts' cells' x y ≡ cond (eqb x u) (q y) (links s x y)
  relinked q is x y = elim (cases_eq x u) [
    | inl e ↦ ap (λ t. linked_in s.n s.span counts' cells' t y) e ∙ ap₂ (λ b row. b && has y row) (lt-ltb u s.n inside) row_here ∙ is y
        ∙ sym (ap (λ b. cond b (q y) (links s x y)) (eq-eqb x u e))
    | inr ne ↦ elim (cases_lt x s.n) [
      | inl h ↦ ap (λ row. ltb x s.n && has y row) (row_there x h ne)
      | inr h ↦ nobody_linked s.n s.span counts' cells' x y h ∙ sym (nobody_linked s.n s.span counts cells x y h)
    ] ∙ sym (ap (λ b. cond b (q y) (links s x y)) (ne_eqb x u ne))
  ]

  pub rewritten : (q : ℕ → Bool) (f : ℕ → ℕ → Bool) → Tidy s.n xs → ((y : ℕ) → has y xs ≡ q y) → ((x y : ℕ) → cond (eqb x u) (q y) (links s x y) ≡ f x y) → Becomes s f counts' cells'
  rewritten q f tidy is to = record { kept = still_kept tidy; linked = λ x y. relinked q is x y ∙ to x y; framed = still_framed }
