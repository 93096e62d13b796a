-- The memory of a bit matrix: what the check goes by, and what it holds. Assumes nothing.
--     refusal_for n sizes         by the lengths of bits and grades: 6 above 4,096 persons, else 7 where one is short
--     fixed_in n bits grades      the lengths, the ceiling, and what lies behind
--     digit b weight              the weight, or 0
--     byte_of t                   the byte with the bits t
--     packed net                  the bytes of a network, row by row; spare bits are clear
--     Holding net f m             the memory holds just the network, and behind it what lay there at the opening
use Rattle.std.specs.Prelude.{◌≡◌, ℕ, ◌+◌, ◌-◌, ◌*◌, ◌/◌, ◌%◌, Bool, cond, ◌||◌, List, [], ◌∷◌, ◌++◌, map, length, drop, Some, None, Option, nat_lt, slice_index, slice_index_or}
use Rattle.std.specs.List.{range_with_len}
use Rattle.faults.specs.declared.call_fault.CallFault.{CallFault}
use Rattle.faults.specs.declared.call_fault.CallFault.TheVariants.{TooLarge, ShortMemory}
use Rattle.networks.specs.Fixed.{Fixed}
use Rattle.networks.specs.Net.{Net}
use Rattle.matrix.specs.Bits.{stride}

abbrev pub refusal_for : ℕ → List ℕ → Option CallFault
refusal_for n sizes =
    cond (nat_lt 4096 n) (Some TooLarge) (cond (nat_lt (slice_index sizes 0) (n * stride n) || nat_lt (slice_index sizes 1) n) (Some ShortMemory) None)

abbrev pub fixed_in : {G : Type 0} → ℕ → List ℕ → List G → Fixed G
fixed_in n bits grades =
    record { sizes = length bits ∷ length grades ∷ []; ceiling = n - 1; grades_behind = drop n grades; cells_behind = drop (n * stride n) bits ∷ [] }

abbrev pub digit : Bool → ℕ → ℕ
digit b weight = cond b weight 0

abbrev pub byte_of : (ℕ → Bool) → ℕ
byte_of t = digit (t 0) 1 + digit (t 1) 2 + digit (t 2) 4 + digit (t 3) 8 + digit (t 4) 16 + digit (t 5) 32 + digit (t 6) 64 + digit (t 7) 128

abbrev pub packed : {G : Type 0} → Net G → List ℕ
packed net = map (λ i. byte_of (λ j. net.linked (i / stride net.persons) (8 * (i % stride net.persons) + j))) (range_with_len 0 (net.persons * stride net.persons))

pub record Holding {G : Type 0} (net : Net G) (f : Fixed G) (bits : List ℕ) (grades : List G) : Type 0 where
  pub bytes : bits ≡ packed net ++ slice_index_or f.cells_behind 0 []
  pub graded : grades ≡ net.grades ++ f.grades_behind
  pub sized : length bits ∷ length grades ∷ [] ≡ f.sizes
