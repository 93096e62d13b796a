-- Lanes of numbers, one a person, and what a cascade makes of them. Assumes nothing.
--     Lanes                       who fell and with which mark, degrees, the persons in the order in which they fell, and how many these are
--     lanes fell degrees order tail   lanes from their parts
--     fitting n mark l near       the lanes, and one for neighbours, have a place for each of n persons, and the mark is not 0
--     Fits n mark l near          the same, fact by fact
--     alive fell                  who stands: the lane holds 0 for them, and for the others the mark with which they fell
--     Counted g fell degrees      the degrees of those who stand are right
--     Ready g l                   the degrees are right, and the order has a place for each who stands
--     Marked mark old new         who fell meanwhile has the mark, for all others the lane is the same
--     Fallen g k mark old new     what a cascade leaves: degrees right and k at least, marks, and who fell, each once, at the end of the order
use Rattle.std.specs.Prelude.{◌≡◌, ℕ, ◌+◌, ◌<◌, ◌≤◌, Bool, ◌&&◌, ◌⊎◌, List, length, take, drop, count_by, ◌==◌, nat_eq, nat_le, nat_lt, slice_index, slice_index_or}
use Rattle.theory.specs.Graphs.{Graph, degree}
use Rattle.theory.specs.Sets.{Set, ◌∈◌, bit, count, minus}

pub record Lanes : Type 0 where
  pub fell : List ℕ
  pub degrees : List ℕ
  pub order : List ℕ
  pub tail : ℕ

abbrev pub lanes : List ℕ → List ℕ → List ℕ → ℕ → Lanes
lanes fell degrees order tail = record { fell = fell; degrees = degrees; order = order; tail = tail }

abbrev pub fitting : ℕ → ℕ → Lanes → List ℕ → Bool
fitting n mark l near =
    (nat_lt 0 mark && nat_le l.tail n) && ((length l.fell == n && length l.degrees == n) && (length l.order == n && length near == n))

pub record Fits (n mark : ℕ) (l : Lanes) (near : List ℕ) : Type 0 where
  pub marks : 0 < mark
  pub ends : l.tail ≤ n
  pub fell : length l.fell ≡ n
  pub degrees : length l.degrees ≡ n
  pub order : length l.order ≡ n
  pub room : length near ≡ n

-- nobody beyond the lane stands
unfoldable pub alive : List ℕ → Set
alive fell v = slice_index_or fell v 1 == 0

abbrev pub Counted : Graph → List ℕ → List ℕ → Type 0
Counted g fell degrees = (v : ℕ) → v ∈ alive fell → slice_index degrees v ≡ degree g (alive fell) v

pub record Ready (g : Graph) (l : Lanes) : Type 0 where
  pub counted : Counted g l.fell l.degrees
  pub room : l.tail + count (alive l.fell) g.size ≤ g.size

abbrev pub Marked : ℕ → List ℕ → List ℕ → Type 0
Marked mark old new = (v : ℕ) → (slice_index_or new v 1 ≡ slice_index_or old v 1) ⊎ ((slice_index_or old v 1 ≡ 0) × (slice_index_or new v 1 ≡ mark))

pub record Fallen (g : Graph) (k mark : ℕ) (old new : Lanes) : Type 0 where
  pub counted : Counted g new.fell new.degrees
  pub enough : (v : ℕ) → v ∈ alive new.fell → k ≤ slice_index new.degrees v
  pub marked : Marked mark old.fell new.fell
  pub kept : take old.tail new.order ≡ take old.tail old.order
  pub once : (v : ℕ) → count_by (nat_eq v) (drop old.tail (take new.tail new.order)) ≡ bit (minus (alive old.fell) (alive new.fell) v)
  pub room : new.tail + count (alive new.fell) g.size ≡ old.tail + count (alive old.fell) g.size
