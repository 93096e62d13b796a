-- The row of a person is that person's neighbours. Assumes nothing.
use Rattle.std.proofs.Common.{◌≡◌, ℕ, ◌<◌, ◌≤◌, Bool, false, ◌&&◌, ltb, List, [], filter, sym, ap, ◌∙◌, inl, inr}
use Rattle.std.specs.List.{range_with_len}
use Rattle.std.proofs.lemmas.Bool.{cases_lt, lt-ltb, le-ltb, and_left}
use Rattle.networks.proofs.Rising.{kept_none}
use Rattle.rows.specs.Row.{has, row_of, Tidy}
use Rattle.rows.specs.Rows.{linked_in, Bothways}
use Rattle.rows.proofs.Sieve.{has_kept}

module _ (n span : ℕ) (counts cells : List ℕ) where
  abbrev linked : ℕ → ℕ → Bool
  linked = linked_in n span counts cells

  pub nobody_linked : (u v : ℕ) → n ≤ u → linked u v ≡ false
  nobody_linked u v h = and_left (ltb u n) (has v (row_of span counts cells u)) (le-ltb u n h)

  pub nobody_near : (u : ℕ) → n ≤ u → [] ≡ filter (linked u) (range_with_len 0 n)
  nobody_near u h = sym (kept_none (linked u) 0 n (λ v _. nobody_linked u v h))

  pub row_near : (u : ℕ) → u < n → Tidy n (row_of span counts cells u) → row_of span counts cells u ≡ filter (linked u) (range_with_len 0 n)
  row_near u h t = t ∙ ap (λ b. filter (λ v. b && has v (row_of span counts cells u)) (range_with_len 0 n)) (sym (lt-ltb u n h))

  pub near_linked : Bothways linked → (u v : ℕ) → has v (filter (linked u) (range_with_len 0 n)) ≡ linked u v
  near_linked both u v = has_kept (linked u) n v ∙ elim (cases_lt v n) [
    | inl h ↦ ap (λ b. b && linked u v) (lt-ltb v n h)
    | inr h ↦ and_left (ltb v n) (linked u v) (le-ltb v n h) ∙ sym (nobody_linked v u h) ∙ both v u
  ]
