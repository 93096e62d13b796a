-- The memory of adjacency rows: what it needs, what an opening fixes in it, and what it holds at the end. Assumes nothing.
--     sizes_of span counts cells grades     what the opening check goes by
--     refusal_for n span counts cells grades    6 for too many persons or too long rows, else 7 for a memory that is short
--     refusal_by n sizes          the same, by the sizes as a list
--     fixed_in frame grades       the sizes, the span as the ceiling, and what lies behind
--     Begins xs cells             cells begins with xs, and is free behind it
--     HoldsNet net f span counts cells grades     the memory holds just this network
use Rattle.std.specs.Prelude.{◌≡◌, ℕ, ◌*◌, ◌<◌, cond, ◌||◌, List, [], ◌∷◌, ◌++◌, map, length, take, drop, Some, None, Option, nat_lt, slice_index}
use Rattle.std.specs.List.{range_with_len}
use Rattle.faults.specs.declared.call_fault.CallFault.{CallFault}
use Rattle.faults.specs.declared.call_fault.CallFault.TheVariants.{TooLarge, ShortMemory}
use Rattle.networks.specs.Fixed.{Fixed}
use Rattle.networks.specs.Net.{Net, neighbours, degree_of}
use Rattle.rows.specs.Rows.{Frame}

abbrev pub sizes_of : {G : Type 0} → ℕ → List ℕ → List ℕ → List G → List ℕ
sizes_of span counts cells grades = span ∷ length counts ∷ length cells ∷ length grades ∷ []

abbrev pub refusal_for : ℕ → ℕ → ℕ → ℕ → ℕ → Option CallFault
refusal_for n span counts cells grades =
    cond (nat_lt 4096 n || nat_lt 4095 span) (Some TooLarge)
    (cond (nat_lt counts n || (nat_lt cells (n * span) || nat_lt grades n)) (Some ShortMemory) None)

abbrev pub refusal_by : ℕ → List ℕ → Option CallFault
refusal_by n sizes = refusal_for n (slice_index sizes 0) (slice_index sizes 1) (slice_index sizes 2) (slice_index sizes 3)

abbrev pub fixed_in : {G : Type 0} → Frame → List G → Fixed G
fixed_in frame grades = record {
  sizes = frame.span ∷ frame.counts ∷ frame.cells ∷ length grades ∷ [];
  ceiling = frame.span;
  grades_behind = drop frame.persons grades;
  cells_behind = frame.counts_behind ∷ frame.cells_behind ∷ [];
}

abbrev pub Begins : List ℕ → List ℕ → Type 0
Begins xs cells = take (length xs) cells ≡ xs

pub record HoldsNet {G : Type 0} (net : Net G) (f : Fixed G) (span : ℕ) (counts cells : List ℕ) (grades : List G) : Type 0 where
  pub sizes : sizes_of span counts cells grades ≡ f.sizes
  pub ceiling : span ≡ f.ceiling
  pub degrees : take net.persons counts ≡ map (degree_of net) (range_with_len 0 net.persons)
  pub rows : (u : ℕ) → u < net.persons → Begins (neighbours net u) (drop (u * span) cells)
  pub graded : grades ≡ net.grades ++ f.grades_behind
  pub behind : drop net.persons counts ∷ drop (net.persons * span) cells ∷ [] ≡ f.cells_behind
