-- Rows just cleared keep their facts. Assumes nothing.
use Rattle.std.proofs.Common.{◌≡◌, ℕ, ◌*◌, ◌<◌, ◌≤◌, List, [], length, get_or, take, drop, sym, refl, ap, ◌∙◌, subst, arith}
use Rattle.networks.specs.Places.{filled}
use Rattle.networks.proofs.Fills.{length_filled, get_d_filled}
use Rattle.networks.proofs.Rising.{kept_none}
use Rattle.rows.specs.Row.{has, Tidy, row_of}
use Rattle.rows.proofs.Keeping.{Kept}

tidy_none : (n : ℕ) → Tidy n []
tidy_none n = sym (kept_none (λ v. has v []) 0 n (λ _ _. refl))

-- no counts, no links
module _ (n span : ℕ) (counts cells ks : List ℕ) (is : ks ≡ filled n 0 counts) (long : n ≤ length counts) where
  row_none : (u : ℕ) → u < n → row_of span ks cells u ≡ []
  row_none u h = ap (λ t. take (get_or t u 0) (drop (u * span) cells)) is ∙ ap (λ k. take k (drop (u * span) cells)) (get_d_filled n 0 counts u 0 h long)

  pub kept_cleared : n * span ≤ length cells → Kept n span ks cells
  kept_cleared room = record {
    counted = omega (arith, ap length is, length_filled n 0 counts);
    roomy = room;
    within = λ u h. omega (arith, ap (λ t. get_or t u 0) is, get_d_filled n 0 counts u 0 h long);
    listed = λ u h. subst (Tidy n) (sym (row_none u h)) (tidy_none n);
  }
