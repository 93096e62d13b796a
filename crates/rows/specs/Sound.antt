-- Rows whose links hold both ways mean a sound network, tidy or not. Assumes nothing.
--     rows_sound                  it has at most 4,096 persons, a grade each, and links of two, both ways
use Rattle.std.specs.Prelude.{ℕ, ◌≤◌, List, length, nat_lt}
use Rattle.std.proofs.lemmas.List.{length-take-le}
use Rattle.std.proofs.lemmas.Bool.{and_parts, ltb-true}
use Rattle.networks.specs.Net.{Sound}
use Rattle.rows.specs.Rows.{linked_in, net_in, Apart, Bothways}

pub rows_sound : {G : Type 0} (n span : ℕ) (counts cells : List ℕ) (grades : List G) → n ≤ 4096 → n ≤ length grades
    → Apart (linked_in n span counts cells) → Bothways (linked_in n span counts cells) → Sound (net_in n span counts cells grades)
rows_sound n span counts cells grades few long apart bothways = record {
  few = few;
  graded = length-take-le n grades long;
  within = λ u v h. ltb-true u n (and_parts (nat_lt u n) _ h).0;
  apart = apart;
  bothways = bothways;
}
