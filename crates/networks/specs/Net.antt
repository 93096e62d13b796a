-- What a credit network means. Assumes nothing.
--     Net G                       persons 0 to persons - 1, a grade for each, and who is linked to whom
--     neighbours net u            those linked to u, rising
--     degree_of net u             how many they are
--     Sound net                   what every network keeps
use Rattle.std.specs.Prelude.{◌≡◌, ℕ, ◌<◌, ◌≤◌, Bool, true, false, List, length, filter}
use Rattle.std.specs.List.{range_with_len}

pub record Net (G : Type 0) : Type 0 where
  pub persons : ℕ
  pub grades : List G
  pub linked : ℕ → ℕ → Bool

abbrev pub neighbours : {G : Type 0} → Net G → ℕ → List ℕ
neighbours net u = filter (net.linked u) (range_with_len 0 net.persons)

abbrev pub degree_of : {G : Type 0} → Net G → ℕ → ℕ
degree_of net u = length (neighbours net u)

pub record Sound {G : Type 0} (net : Net G) : Type 0 where
  pub few : net.persons ≤ 4096
  pub graded : length net.grades ≡ net.persons
  pub within : (u v : ℕ) → net.linked u v ≡ true → u < net.persons
  pub apart : (u : ℕ) → net.linked u u ≡ false
  pub bothways : (u v : ℕ) → net.linked u v ≡ net.linked v u
