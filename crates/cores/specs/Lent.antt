-- The lanes that a cascade was lent. Assumes nothing.
--     lanes_of c                  what the lanes hold
--     SameLane old new            the memory of a lane is the same, and as long
--     SameLanes old new           the same of all four lanes
use Rattle.std.specs.Prelude.{◌≡◌, ℕ, List, length}
use Rattle.std.specs.Borrow.{MutBor}
use Rattle.cores.specs.declared.lanes.Cascade.{Cascade}
use Rattle.cores.specs.Lanes.{Lanes, lanes}

abbrev pub lanes_of : Cascade → Lanes
lanes_of c = lanes c.fell.now c.degree.now c.order.now c.tail

abbrev pub SameLane : MutBor (List ℕ) → MutBor (List ℕ) → Type 0
SameLane old new = (new.ghost_name ≡ old.ghost_name) × (length new.now ≡ length old.now)

abbrev pub SameLanes : Cascade → Cascade → Type 0
SameLanes old new = SameLane old.fell new.fell × SameLane old.degree new.degree × SameLane old.order new.order × SameLane old.near new.near
