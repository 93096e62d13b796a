-- Rows changed in their links, and rows handed back. Assumes nothing.
use Rattle.std.proofs.Common.{◌≡◌, ℕ, ◌*◌, Bool, List, take, drop, vec_items, sym, refl, ap, ◌∙◌, ap₂}
use mathlib.Core.Path.{fun_ext}
use Rattle.std.proofs.lemmas.List.FromFn.{fill_by_all}
use Rattle.std.proofs.lemmas.List.{get_or-take, length-take-le, take-append-drop}
use Rattle.networks.specs.Net.{Net, degree_of}
use Rattle.rows.specs.declared.rows.AdjacencyRows.{AdjacencyRows}
use Rattle.rows.specs.declared.tidy.TidyRows.{TidyRows}
use Rattle.rows.specs.Memory.{fixed_in, HoldsNet}
use Rattle.rows.specs.Tidy.{links, frame, net_of}
use Rattle.rows.proofs.Keeping.{lies}

-- the network of n rows with the links f
pub net_linked : {G : Type 0} (rows : TidyRows) (grades : List G) (n : ℕ) (f : ℕ → ℕ → Bool) → rows.n ≡ n → ((x y : ℕ) → links rows x y ≡ f x y) → net_of rows grades ≡ record { persons = n; grades = take n grades; linked = f }
net_linked {G} rows grades n f e to =
    let of : ℕ → (ℕ → ℕ → Bool) → Net G = λ k l. record { persons = k; grades = take k grades; linked = l } in
    ap₂ of e (fun_ext (λ x. fun_ext (λ y. to x y)))

-- the memory of rows holds the network that they mean
pub holds : {G : Type 0} (s : AdjacencyRows G)
    → HoldsNet (net_of s.rows (vec_items s.grades)) (fixed_in (frame s.rows) (vec_items s.grades)) s.rows.span (vec_items s.rows.counts) (vec_items s.rows.cells) (vec_items s.grades)
holds s =
    let n = s.rows.n in
    let counts = vec_items s.rows.counts in
    record {
      sizes = refl;
      ceiling = refl;
      degrees = fill_by_all (degree_of (net_of s.rows (vec_items s.grades))) (take n counts) n 0 (length-take-le n counts s.rows.counted)
          (λ u h. get_or-take n counts u 0 h ∙ (lies s.rows u h).counts);
      rows = λ u h. (let l = lies s.rows u h in ap (λ k. take k (drop (u * s.rows.span) (vec_items s.rows.cells))) (sym l.counts) ∙ l.near);
      graded = sym (take-append-drop n (vec_items s.grades));
      behind = refl;
    }
