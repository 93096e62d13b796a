-- Tidy rows keep their facts: each row lies in the memory, and is who it links. Assumes nothing.
use Rattle.std.proofs.Common.{◌≡◌, ℕ, ◌+◌, ◌*◌, ◌^◌, ◌<◌, ◌≤◌, List, length, get_or, vec_items, sym, ap, ◌∙◌, arith}
use Rattle.std.proofs.lemmas.List.{get_or_default, length-drop, length-take-le}
use Rattle.rows.specs.declared.tidy.TidyRows.{TidyRows}
use Rattle.rows.specs.Row.{row_of}
use Rattle.rows.specs.Rows.{Within, Listed}
use Rattle.rows.specs.Tidy.{in_row}
use Rattle.rows.proofs.Neighbourhoods.{row_near}
use Rattle.rows.proofs.Stretches.{row_ends, first_small}

-- room for n rows, none too long, all tidy
pub record Kept (n span : ℕ) (counts cells : List ℕ) : Type 0 where
  pub counted : n ≤ length counts
  pub roomy : n * span ≤ length cells
  pub within : Within n span counts
  pub listed : Listed n span counts cells

-- where the row of u lies, and who stands in it
pub record Lies (s : TidyRows) (u : ℕ) : Type 0 where
  pub known : u < length (vec_items s.counts)
  pub small : u * s.span < 2 ^ 32
  pub narrow : s.span ≤ 4095
  pub within : get_or (vec_items s.counts) u 0 ≤ s.span
  pub roomy : u * s.span + s.span ≤ length (vec_items s.cells)
  pub near : row_of s.span (vec_items s.counts) (vec_items s.cells) u ≡ in_row s u
  pub counts : get_or (vec_items s.counts) u 0 ≡ length (in_row s u)

pub lies : (s : TidyRows) (u : ℕ) → u < s.n → Lies s u
lies s u inside =
    let counts = vec_items s.counts in
    let cells = vec_items s.cells in
    let thin : s.span ≤ 4095 = s.narrow (omega arith) in
    let within = s.within u inside in
    let roomy : u * s.span + s.span ≤ length cells = omega (arith, s.roomy, row_ends u s.n s.span inside) in
    let near = row_near s.n s.span counts cells u inside (s.listed u inside) in
    record {
      known = omega (arith, s.counted);
      small = first_small u s.n s.span inside s.few thin;
      narrow = thin;
      within = within;
      roomy = roomy;
      near = near;
      counts = sym (length-take-le (get_or counts u 0) _ (omega (arith, length-drop (u * s.span) cells))) ∙ ap length near;
    }

-- what was read at u
pub reads : (xs : List ℕ) (u x : ℕ) → u < length xs → x ≡ get_or xs u x → x ≡ get_or xs u 0
reads xs u x h e = e ∙ get_or_default xs u x 0 h
