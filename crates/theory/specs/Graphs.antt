-- Who is linked to whom: degrees inside a set, tight sets, walks and connected sets. Assumes nothing.
--     Graph                       persons 0 to size - 1, and the test of who is linked to whom
--     Lawful g                    links go both ways, are between persons, and nobody is linked to themselves
--     Inside g S                  S is a set of persons of g
--     degree g S u                how many of S the person u is linked to
--     Tight g k S                 each member of S is linked to at least k members of S
--     Walk g S u w                a walk by links from u to w that stays in S
--     Connected g S               between any two members of S there is a walk that stays in S
--     links g                     the number of linked pairs
--     from_pairs n ps             the graph of n persons with the links of a list
use Rattle.std.specs.Prelude.{◌≡◌, ℕ, ◌<◌, ◌≤◌, Bool, true, false, not, ◌&&◌, ◌||◌, List, [], ◌∷◌, ◌==◌, nat_lt}
use Rattle.theory.specs.Sets.{Set, Relation, ◌∈◌, count, total}

pub record Graph : Type 0 where
  pub size : ℕ
  pub linked : Relation

pub record Lawful (g : Graph) : Type 0 where
  pub symmetric : (u v : ℕ) → g.linked u v ≡ true → g.linked v u ≡ true
  pub within : (u v : ℕ) → g.linked u v ≡ true → u < g.size
  pub apart : (u : ℕ) → g.linked u u ≡ false

abbrev pub Inside : Graph → Set → Type 0
Inside g S = (u : ℕ) → u ∈ S → u < g.size

unfoldable pub degree : Graph → Set → ℕ → ℕ
degree g S u = count (λ v. g.linked u v && S v) g.size

abbrev pub Tight : Graph → ℕ → Set → Type 0
Tight g k S = (u : ℕ) → u ∈ S → k ≤ degree g S u

pub data Walk (g : Graph) (S : Set) : ℕ → ℕ → Type 0 where
  here : {u : ℕ} → u ∈ S → Walk g S u u
  step : {u v w : ℕ} → u ∈ S → g.linked u v ≡ true → Walk g S v w → Walk g S u w

abbrev pub Connected : Graph → Set → Type 0
Connected g S = (u v : ℕ) → u ∈ S → v ∈ S → Walk g S u v

-- each pair is counted at its greater number
unfoldable pub links : Graph → ℕ
links g = total (λ u. count (g.linked u) u) g.size

abbrev pub joins : ℕ → ℕ → List (ℕ × ℕ) → Bool
joins u v [] = false
joins u v (p ∷ ps) = (u == p.0 && v == p.1) || joins u v ps

unfoldable pub from_pairs : ℕ → List (ℕ × ℕ) → Graph
from_pairs n ps = record { size = n; linked = λ u v. (nat_lt u n && nat_lt v n) && (not (u == v) && (joins u v ps || joins v u ps)) }
