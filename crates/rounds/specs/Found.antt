-- What lanes of numbers hold of the rounds for k. Assumes nothing.
--     Shrunk g k fell degrees     who stands is the k-core, with the right degrees; the others fell with mark 1
--     Lined le net S ps           persons from the weakest to the strongest, all of S among them
--     place g le k v              1 for who is in no round, else 2 and the number of the round
--     drops_before g le k i       how many are dropped before round i
--     Found g le k m fell names ends persons   m rounds: the place of each person, the key of each round, where its own persons end, and these, round after round, rising
--     held_of h                   0 for none, else 1 and the number of the round
--     Held g le k m held          the holder of each of m rounds
use Rattle.std.specs.Prelude.{◌≡◌, Bool, true, false, cond, List, ℕ, suc, ◌+◌, ◌≤◌, ◌<◌, take, drop, slice_index}
use Rattle.std.proofs.Math.Option.{Option, some, none}
use Rattle.networks.specs.Net.{Net}
use Rattle.meaning.specs.Persons.{order_of}
use Rattle.theory.specs.Sets.{Set, Relation, ◌∈◌, count, total, ◌among◌, Pairwise, members}
use Rattle.theory.specs.Graphs.{Graph}
use Rattle.theory.specs.Cores.{core, everyone}
use Rattle.forest.specs.Rounds.{key, own, rounds, round}
use Rattle.forest.specs.Holders.{holder}
use Rattle.cores.specs.Lanes.{alive, Counted}

pub record Shrunk (g : Graph) (k : ℕ) (fell degrees : List ℕ) : Type 0 where
  pub stands : alive fell ≡ core g k (everyone g)
  pub out : (v : ℕ) → v < g.size → alive fell v ≡ false → slice_index fell v ≡ 1
  pub counted : Counted g fell degrees
  pub enough : (v : ℕ) → v ∈ alive fell → k ≤ slice_index degrees v

pub record Lined {G : Type 0} (le : G → G → Bool) (net : Net G) (S : Set) (ps : List ℕ) : Type 0 where
  pub rising : Pairwise (λ u v. order_of le net u v ≡ true) ps
  pub all : (v : ℕ) → v ∈ S → v among ps

unfoldable pub place : Graph → Relation → ℕ → ℕ → ℕ
place g le k v = cond (core g k (everyone g) v) (round g le k v + 2) 1

unfoldable pub drops_before : Graph → Relation → ℕ → ℕ → ℕ
drops_before g le k i = total (λ j. count (own g le k j) g.size) i

pub record Found (g : Graph) (le : Relation) (k m : ℕ) (fell names ends persons : List ℕ) : Type 0 where
  pub all : m ≡ rounds g le k
  pub placed : (v : ℕ) → v < g.size → slice_index fell v ≡ place g le k v
  pub named : (i : ℕ) → i < m → slice_index names i ≡ key g le k i
  pub ended : (i : ℕ) → i < m → slice_index ends i ≡ drops_before g le k (suc i)
  pub listed : (i : ℕ) → i < m → take (count (own g le k i) g.size) (drop (drops_before g le k i) persons) ≡ members (own g le k i) g.size

abbrev pub held_of : Option ℕ → ℕ
held_of none = 0
held_of (some j) = j + 1

abbrev pub Held : Graph → Relation → ℕ → ℕ → List ℕ → Type 0
Held g le k m held = (i : ℕ) → i < m → slice_index held i ≡ held_of (holder g le k i)
