-- A square that keeps its facts is a sound network. Assumes nothing.
use Rattle.std.specs.Prelude.{◌≡◌, ℕ, ◌≤◌, false, List, length, nat_lt}
use Rattle.std.proofs.lemmas.List.{length-take-le}
use Rattle.std.proofs.lemmas.Bool.{and_parts, ltb-true}
use Rattle.networks.specs.Net.{Sound}
use Rattle.matrix.specs.Bits.{bit_at, net_in}

pub matrix_sound : {G : Type 0} (n : ℕ) (bits : List ℕ) (grades : List G) → n ≤ 4096 → n ≤ length grades → ((u v : ℕ) → bit_at n bits u v ≡ bit_at n bits v u) → ((u : ℕ) → bit_at n bits u u ≡ false) → Sound (net_in n bits grades)
matrix_sound n bits grades few long mirror apart = record {
  few = few;
  graded = length-take-le n grades long;
  within = λ u v h. ltb-true u n (and_parts (nat_lt u n) _ h).0;
  apart = apart;
  bothways = mirror;
}
