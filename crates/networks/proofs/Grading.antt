-- One grade replaced among the first of a row: the network with that grade, and nothing else. Assumes nothing.
use Rattle.std.proofs.Common.{◌≡◌, ℕ, Bool, List, set, take, ap}
use Rattle.networks.specs.Changes.{with_grade}
use Rattle.networks.specs.Net.{Net}
use Rattle.networks.proofs.Fills.{take_set_in}

abbrev pub net_with : {G : Type 0} → ℕ → (ℕ → ℕ → Bool) → List G → Net G
net_with n linked grades = record { persons = n; grades = take n grades; linked = linked }

pub net_graded : {G : Type 0} (n : ℕ) (linked : ℕ → ℕ → Bool) (grades : List G) (u : ℕ) (g : G) → net_with n linked (set grades u g) ≡ with_grade (net_with n linked grades) u g
net_graded {G} n linked grades u g =
    let of : List G → Net G = λ l. record { persons = n; grades = l; linked = linked } in
    ap of (take_set_in n grades u g)
