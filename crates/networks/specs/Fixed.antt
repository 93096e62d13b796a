-- What an opening fixes for good: no question and no change alters it. Assumes nothing.
--     Fixed G                     the sizes that the opening check went by, the ceiling, and what lies in memory behind the places in use
--     opened n grades             n persons with the first n of the grades found, and no link
--     capped limit f              what is fixed, under a degree cap
--     opened_size f n             n, or no persons where the opening check refuses
use Rattle.std.specs.Prelude.{ℕ, min, false, List, ◌∷◌, take, Option}
use Rattle.faults.specs.Answers.{unless}
use Rattle.faults.specs.declared.call_fault.CallFault.{CallFault}
use Rattle.networks.specs.Net.{Net}

pub record Fixed (G : Type 0) : Type 0 where
  pub sizes : List ℕ
  pub ceiling : ℕ
  pub grades_behind : List G
  pub cells_behind : List (List ℕ)

abbrev pub opened : {G : Type 0} → ℕ → List G → Net G
opened n grades = record { persons = n; grades = take n grades; linked = λ u v. false }

abbrev pub opened_size : Option CallFault → ℕ → ℕ
opened_size f n = unless f n 0

-- what a degree cap of `limit` over a network adds to what is fixed
abbrev pub capped : {G : Type 0} → ℕ → Fixed G → Fixed G
capped limit f = record { sizes = limit ∷ f.sizes; ceiling = min limit f.ceiling; grades_behind = f.grades_behind; cells_behind = f.cells_behind }
