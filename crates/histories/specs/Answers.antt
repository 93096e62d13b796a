-- What a call tells, as numbers, circles and persons. Assumes nothing.
--     Told                        done, refused, core numbers, circles, entries used, or a holder
--     said f a                    a, or the refusal
--     granted a                   is it no refusal
--     Numbered g cs               cs are the core numbers of all persons in turn
--     sum_of cs                   their sum
--     Cored g le cs               a person is in some circle for k exactly when the number is at least k
--     Holding g le k w a          what is told of the holder of the circle whose weakest person is w
use Rattle.std.specs.Prelude.{◌≡◌, ℕ, ◌<◌, ◌≤◌, Bool, true, false, ◌⊎◌, List, length, Some, None, Option as Refusal, slice_index}
use Rattle.std.proofs.Math.Option.{Option}
use Rattle.faults.specs.declared.call_fault.CallFault.{CallFault}
use Rattle.faults.specs.declared.call_fault.CallFault.TheVariants.{NotWeakest}
use Rattle.theory.specs.Sets.{Set, Relation, ◌∈◌, total}
use Rattle.theory.specs.Graphs.{Graph}
use Rattle.theory.specs.Orders.{Weakest}
use Rattle.theory.specs.Circles.{Circle}
use Rattle.theory.specs.Cores.{IsCore}
use Rattle.theory.specs.Listing.{Entry}
use Rattle.forest.specs.Holders.{HolderOf}

pub data Told : Type 0 where
  done : Told
  refused : CallFault → Told
  numbers : List ℕ → Told
  circles : List Entry → Told
  entries : ℕ → Told
  holder : Option ℕ → Told

abbrev pub said : Refusal CallFault → Told → Told
said None a = a
said (Some f) a = refused f

abbrev pub granted : Told → Bool
granted (refused f) = false
granted _ = true

abbrev pub Numbered : Graph → List ℕ → Type 0
Numbered g cs = (length cs ≡ g.size) × ((u : ℕ) → u < g.size → IsCore g u (slice_index cs u))

abbrev pub sum_of : List ℕ → ℕ
sum_of cs = total (λ u. slice_index cs u) (length cs)

abbrev pub Cored : Graph → Relation → List ℕ → Type 0
Cored g le cs =
    (k u : ℕ) → 1 ≤ k → u < g.size →
    (k ≤ slice_index cs u → (S : Set) × Circle g le k S × (u ∈ S)) × (((S : Set) × Circle g le k S × (u ∈ S)) → k ≤ slice_index cs u)

-- w is the weakest of no circle, or of one, and then its holder is the smallest other circle that holds it
abbrev pub Holding : Graph → Relation → ℕ → ℕ → Told → Type 0
Holding g le k w a =
    (((S : Set) → Circle g le k S → Weakest le S w → ⊥) × (a ≡ refused NotWeakest))
    ⊎ ((S : Set) × (h : Option ℕ) × Circle g le k S × Weakest le S w × HolderOf g le k S h × (a ≡ holder h))
