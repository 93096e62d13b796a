-- What holds while persons fall. Assumes nothing.
--     pushed mark x l             the lanes after the fall of x
--     lowered x l                 the lanes with one neighbour less for x
--     let_fall mark x l           x falls, and stands last in the order if there is a place
--     eased k mark x l            x, if they stand, has one neighbour less, and falls with fewer than k
--     settled k mark xs l         all of xs, one after another
--     Owed g l head rest          the degrees that the lane holds, and those that are right
--     Queued g mark old new head rest   the lanes old and new while those in the order from head on wait
--     Falling g k m mark X old new head rest   the same on the way to the core of X, where who stands below m has degree k at least
use Rattle.std.specs.Prelude.{◌≡◌, ℕ, ◌+◌, ◌-◌, ◌<◌, ◌≤◌, cond, List, [], ◌∷◌, length, take, count_by, nat_eq, nat_lt, slice_index, slice_set}
use Rattle.theory.specs.Cores.{core}
use Rattle.theory.specs.Graphs.{Graph, degree}
use Rattle.theory.specs.Sets.{Set, ◌∈◌, bit, count}
use Rattle.cores.specs.Lanes.{Lanes, lanes, alive, Marked}

abbrev pub pushed : ℕ → ℕ → Lanes → Lanes
pushed mark x l = lanes (slice_set l.fell x mark) l.degrees (slice_set l.order l.tail x) (l.tail + 1)

abbrev pub lowered : ℕ → Lanes → Lanes
lowered x l = lanes l.fell (slice_set l.degrees x (slice_index l.degrees x - 1)) l.order l.tail

abbrev pub let_fall : ℕ → ℕ → Lanes → Lanes
let_fall mark x l = lanes (slice_set l.fell x mark) l.degrees (slice_set l.order l.tail x) (cond (nat_lt l.tail (length l.order)) (l.tail + 1) l.tail)

abbrev pub eased : ℕ → ℕ → ℕ → Lanes → Lanes
eased k mark x l = cond (alive l.fell x) (cond (nat_lt (slice_index l.degrees x - 1) k) (let_fall mark x (lowered x l)) (lowered x l)) l

abbrev pub settled : ℕ → ℕ → List ℕ → Lanes → Lanes
settled k mark [] l = l
settled k mark (x ∷ xs) l = settled k mark xs (eased k mark x l)

-- the degree lane holds for v its degree, and what is still to be taken off
abbrev pub Owed : Graph → Lanes → ℕ → List ℕ → Type 0
Owed g l head rest =
    (v : ℕ) → v ∈ alive l.fell →
    slice_index l.degrees v + count_by (g.linked v) (take head l.order) ≡ degree g (alive l.fell) v + count_by (g.linked v) (take l.tail l.order) + count_by (nat_eq v) rest

-- those in the order from head on have fallen, each once, with the mark, and still count in the degrees of their neighbours, as rest does
pub record Queued (g : Graph) (mark : ℕ) (old new : Lanes) (head : ℕ) (rest : List ℕ) : Type 0 where
  pub owed : Owed g new head rest
  pub few : old.tail + count (alive old.fell) g.size ≤ g.size
  pub room : new.tail + count (alive new.fell) g.size ≡ old.tail + count (alive old.fell) g.size
  pub marked : Marked mark old.fell new.fell
  pub kept : take old.tail new.order ≡ take old.tail old.order
  pub listed : (v : ℕ) → count_by (nat_eq v) (take new.tail new.order) + bit (alive new.fell v) ≡ count_by (nat_eq v) (take old.tail old.order) + bit (alive old.fell v)
  pub later : old.tail ≤ head
  pub queued : head ≤ new.tail

pub record Falling (g : Graph) (k m mark : ℕ) (X : Set) (old new : Lanes) (head : ℕ) (rest : List ℕ) : Type 0 where
  pub same : core g k (alive new.fell) ≡ core g k X
  pub enough : (v : ℕ) → v < m → v ∈ alive new.fell → k ≤ slice_index new.degrees v
  pub queue : Queued g mark old new head rest
