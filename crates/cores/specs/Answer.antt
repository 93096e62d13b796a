-- When the core numbers are refused, and how they are noted. Assumes nothing.
--     cores_fault n scratch places  why core numbers of n persons are refused, if they are: first scratch, then places
--     KeptIf f old new            at a refusal the memory holds what it held
--     Noted S k v old new         k is written for those of S below v, and for nobody else
use Rattle.std.specs.Prelude.{◌≡◌, ℕ, ◌*◌, ◌<◌, ◌≤◌, false, cond, ◌⊎◌, List, Some, None, Option, nat_lt, slice_index}
use Rattle.faults.specs.declared.call_fault.CallFault.{CallFault}
use Rattle.faults.specs.declared.call_fault.CallFault.TheVariants.{ShortScratch, NoRoom}
use Rattle.theory.specs.Sets.{Set, ◌∈◌}

abbrev pub cores_fault : ℕ → ℕ → ℕ → Option CallFault
cores_fault n scratch places = cond (nat_lt scratch (8 * n)) (Some ShortScratch) (cond (nat_lt places n) (Some NoRoom) None)

abbrev pub KeptIf : Option CallFault → List ℕ → List ℕ → Type 0
KeptIf None old new = Unit {0}
KeptIf (Some f) old new = new ≡ old

pub record Noted (S : Set) (k v : ℕ) (old new : List ℕ) : Type 0 where
  pub written : (u : ℕ) → u < v → u ∈ S → slice_index new u ≡ k
  pub others : (u : ℕ) → (v ≤ u) ⊎ (S u ≡ false) → slice_index new u ≡ slice_index old u
