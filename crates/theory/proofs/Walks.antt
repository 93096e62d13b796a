-- Walks: their ends, joined and turned, and kept in a closed part.
use Rattle.std.proofs.Common.{◌≡◌, ℕ, ◌<◌, true}
use Rattle.theory.specs.Graphs.{Graph, here, Lawful, step, Walk}
use Rattle.theory.specs.Sets.{Set, ◌∈◌, ◌⊆◌}

pub walk_start : {g : Graph} {S : Set} {u v : ℕ} → Walk g S u v → u ∈ S
walk_start (here m) = m
walk_start (step m l r) = m

pub walk_end : {g : Graph} {S : Set} {u v : ℕ} → Walk g S u v → v ∈ S
walk_end (here m) = m
walk_end (step m l r) = walk_end r

pub walk_mono : {g : Graph} {S S' : Set} {u v : ℕ} → S ⊆ S' → Walk g S u v → Walk g S' u v
walk_mono h (here {u} m) = here (h u m)
walk_mono h (step {u} m l r) = step (h u m) l (walk_mono h r)

pub walk_join : {g : Graph} {S : Set} {u v w : ℕ} → Walk g S u v → Walk g S v w → Walk g S u w
walk_join (here m) q = q
walk_join (step m l r) q = step m l (walk_join r q)

pub walk_back : {g : Graph} {S : Set} {u v : ℕ} → Lawful g → Walk g S u v → Walk g S v u
walk_back o (here m) = here m
walk_back o (step {u} {v} m l r) = walk_join (walk_back o r) (step (walk_start r) (o.symmetric u v l) (here m))

-- a walk that stays in a closed part
pub walk_closed : {g : Graph} {S : Set} {u v : ℕ} (C : Set) → ((x y : ℕ) → x ∈ C → g.linked x y ≡ true → y ∈ S → y ∈ C) → u ∈ C → Walk g S u v → v ∈ C
walk_closed C shut m (here s) = m
walk_closed C shut m (step {u} {v} s l r) = walk_closed C shut (shut u v m l (walk_start r)) r

pub linked_within : (g : Graph) → Lawful g → (u v : ℕ) → g.linked u v ≡ true → v < g.size
linked_within g o u v l = o.within v u (o.symmetric u v l)
