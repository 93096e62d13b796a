-- A number entered in one row, or taken out. Assumes nothing.
use Rattle.std.proofs.Common.{◌≡◌, ℕ, ◌+◌, ◌-◌, ◌*◌, ◌<◌, ◌≤◌, Bool, true, false, not, ◌&&◌, ◌||◌, eqb, List, ◌++◌, length, get_or, take, drop, set, vec_items, sym, refl, ap, ◌∙◌, subst, ap₂, arith}
use borrow.Rule.Slice.PartMut.{put_mid}
use Rattle.std.specs.List.{insert, remove}
use Rattle.std.specs.Vec.{with_item, with_items}
use Rattle.std.proofs.lemmas.List.{length-append, length-drop, length-take-le, take_all, take_at, take-take, with_items_is}
use Rattle.std.proofs.lemmas.List.Edits.{length-insert, length-remove}
use Rattle.std.proofs.lemmas.Bool.{lt-ltb, eq-eqb, eqb-true}
use Rattle.rows.specs.declared.tidy.TidyRows.{TidyRows}
use Rattle.rows.specs.Row.{has, place_of, row_of}
use Rattle.rows.specs.Tidy.{links, in_row}
use Rattle.rows.proofs.Keeping.{lies, reads}
use Rattle.rows.proofs.Pairing.{one_more, one_less}
use Rattle.rows.proofs.Rewriting.{Becomes, rewritten}
use Rattle.rows.proofs.Sieve.{has_kept}
use Rattle.rows.proofs.Standing.{place_within, placed}
use Rattle.rows.proofs.Stretches.{part_is}
use Rattle.rows.proofs.Tidying.{entered, leaving, tidy_entered, has_entered, tidy_leaving, has_leaving}

module _ (s : TidyRows) (u v : ℕ) (a : u < s.n) (b : v < s.n) where
  abbrev counts : List ℕ
  counts = vec_items s.counts

  abbrev cells : List ℕ
  cells = vec_items s.cells

  abbrev first : ℕ
  first = u * s.span

  abbrev row : List ℕ
  row = row_of s.span counts cells u

  -- who stands in the row of u is linked to u
  row_linked : (x y : ℕ) → eqb x u ≡ true → has y row ≡ links s x y
  row_linked x y e = sym (ap (λ t. links s t y) (eqb-true x u e) ∙ ap (λ t. t && has y row) (lt-ltb u s.n a))

  -- one who is linked to u has a place in the row of u
  pub place_inside : links s u v ≡ true → place_of v (in_row s u) < length (in_row s u)
  place_inside held = placed v (in_row s u) (has_kept (links s u) s.n v ∙ ap (λ t. t && links s u v) (lt-ltb v s.n b) ∙ held)

  module _ (at count held : ℕ) (lent new : List ℕ) (is : count ≡ length (in_row s u)) (was : held ≡ get_or counts u held) (same : lent ≡ cells) (here : at ≡ place_of v (in_row s u)) where
    abbrev part : ℕ → List ℕ
    part k = take (first + k - first) (drop first lent)

    lent_part : (k : ℕ) → part k ≡ take k (drop first cells)
    lent_part k = part_is lent first k ∙ ap (λ t. take k (drop first t)) same

    -- the row as it was cut out
    cut : take count (drop first cells) ≡ row
    cut = let l = lies s u a in let e : count ≡ get_or counts u 0 = omega arith in ap (λ k. take k (drop first cells)) e

    place : at ≡ place_of v row
    place = let l = lies s u a in here ∙ ap (place_of v) (sym l.near)

    -- the counts and the cells as they stand in their memory
    memory_is : (f : ℕ → ℕ → Bool) (c n k : ℕ) → c ≡ n → k ≤ s.span → length new ≡ k → Becomes s f (set counts u n) (put_mid first k cells new)
        → Becomes s f (vec_items (with_item s.counts u c)) (vec_items (with_items s.cells (put_mid first (first + k - first) lent new)))
    memory_is f c n k e fits long to =
        let j : first + k - first ≡ k = omega arith in
        let mid : put_mid first (first + k - first) lent new ≡ put_mid first k cells new = ap₂ (λ i t. put_mid first i t new) j same in
        let size : length (put_mid first (first + k - first) lent new) ≡ s.cells.len = omega (arith, ap length mid, ap (λ m. m.cells) to.framed) in
        subst (λ t. Becomes s f t (vec_items (with_items s.cells (put_mid first (first + k - first) lent new)))) (ap (set counts u) (sym e))
        (subst (Becomes s f (set counts u n)) (sym (with_items_is s.cells (put_mid first (first + k - first) lent new) size ∙ mid)) to)

    pub put_becomes : links s u v ≡ false → length (in_row s u) < s.span → new ≡ insert (take (length (part (count + 1)) - 1) (part (count + 1))) at v
        → Becomes s (λ x y. (eqb x u && eqb y v) || links s x y) (vec_items (with_item s.counts u (held + 1))) (vec_items (with_items s.cells (put_mid first (first + (count + 1) - first) lent new)))
    put_becomes free room e =
        let l = lies s u a in
        let n : count ≡ length row = is ∙ ap length (sym l.near) in
        let p = lent_part (count + 1) in
        let m : length (part (count + 1)) - 1 ≡ count = omega (arith, ap length p, length-take-le (count + 1) (drop first cells) (omega (arith, length-drop first cells))) in
        let is_new : new ≡ entered v row = e ∙ ap₂ (λ t i. insert t i v) (ap₂ (λ j t. take j t) m p ∙ take-take count (count + 1) (drop first cells) (omega arith) ∙ cut) place in
        let size : length (entered v row) ≡ count + 1 = omega (arith, length-insert row (place_of v row) v (place_within v row)) in
        let long = ap length is_new ∙ size in
        let out : has v row ≡ false = row_linked u v (eq-eqb u u refl) ∙ free in
        let tidy = s.listed u a in
        memory_is _ (held + 1) (length (entered v row)) (count + 1) (omega (arith, reads counts u held l.known was)) (omega arith) long
        (rewritten s u (count + 1) a (omega arith) new (entered v row) long (omega arith) (ap (take (length (entered v row))) is_new ∙ take_all (length (entered v row)) (entered v row) (omega arith))
        (λ y. eqb y v || has y row) (λ x y. (eqb x u && eqb y v) || links s x y) (tidy_entered s.n v b row tidy out) (has_entered s.n v b row tidy out)
        (λ x y. one_more (eqb x u) (eqb y v) (has y row) (links s x y) (row_linked x y)))

    pub take_becomes : links s u v ≡ true → new ≡ remove (part count) at ++ drop (length (part count) - 1) (part count)
        → Becomes s (λ x y. not (eqb x u && eqb y v) && links s x y) (vec_items (with_item s.counts u (held - 1))) (vec_items (with_items s.cells (put_mid first (first + count - first) lent new)))
    take_becomes stands e =
        let l = lies s u a in
        let n : count ≡ length row = is ∙ ap length (sym l.near) in
        let rest = drop (length row - 1) row in
        let is_new : new ≡ leaving v row ++ rest = e ∙ ap₂ (λ t i. remove t i ++ drop (length t - 1) t) (lent_part count ∙ cut) place in
        let inside : place_of v row < length row = omega (arith, ap (place_of v) l.near, ap length l.near, place_inside stands) in
        let size : length (leaving v row) + 1 ≡ count = omega (arith, length-remove row (place_of v row) inside) in
        let long : length new ≡ count = omega (arith, ap length is_new, length-append (leaving v row) rest, length-drop (length row - 1) row) in
        let out : has v row ≡ true = row_linked u v (eq-eqb u u refl) ∙ stands in
        let tidy = s.listed u a in
        memory_is _ (held - 1) (length (leaving v row)) count (omega (arith, reads counts u held l.known was)) (omega arith) long
        (rewritten s u count a (omega arith) new (leaving v row) long (omega arith) (ap (take (length (leaving v row))) is_new ∙ take_at (leaving v row) rest (length (leaving v row)) refl)
        (λ y. not (eqb y v) && has y row) (λ x y. not (eqb x u && eqb y v) && links s x y) (tidy_leaving s.n v b row tidy out) (has_leaving s.n v b row tidy out)
        (λ x y. one_less (eqb x u) (eqb y v) (has y row) (links s x y) (row_linked x y)))
