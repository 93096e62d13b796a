-- The laws of rounds. Assumes nothing.
--     Rounded g le k              what holds of the rounds for k
--     RoundsMeetCirclesOnce       the rounds meet every circle once, rising, and drop each person of the core once
--     RoundsBySteps               a loop that takes the weakest of those left does the rounds, and ends after the last
--     PeelingIsRounds             peeling is the rounds in order
--     RoundsList                  the listing is the last r of the rounds that are chosen, each with its key and its circle's members
--     InnermostByRounds           a circle is innermost if it is dropped whole, if as many are dropped as it has members, and if it is no circle's holder
use Rattle.std.specs.Prelude.{◌≡◌, ℕ, suc, ◌<◌, ◌≤◌, map, filter, ◌≢◌}
use Rattle.std.proofs.Math.Option.{some}
use Rattle.std.specs.List.{range_with_len}
use Rattle.theory.specs.Sets.{Set, Relation, ◌∈◌, ◌⊆◌, without, count, members}
use Rattle.theory.specs.Graphs.{Graph, Lawful}
use Rattle.theory.specs.Orders.{Order, Strict, Below, Weakest}
use Rattle.theory.specs.Circles.{Circle, Innermost}
use Rattle.theory.specs.Cores.{everyone, core, component}
use Rattle.theory.specs.Peeling.{dropped, peel}
use Rattle.theory.specs.Listing.{Choice, last, listing}
use Rattle.forest.specs.Rounds.{left, key, own, circle, rounds, round}
use Rattle.forest.specs.Holders.{holder, chosen_round}

pub record Rounded (g : Graph) (le : Relation) (k : ℕ) : Type 0 where
  -- each round has its key, drops it, and its circle is a circle with the key as its weakest
  pub keyed : (i : ℕ) → i < rounds g le k → Weakest le (left g le k i) (key g le k i) × (key g le k i ∈ own g le k i) × (own g le k i ⊆ circle g le k i)
  pub circled : (i : ℕ) → i < rounds g le k → Circle g le k (circle g le k i) × Weakest le (circle g le k i) (key g le k i)
  -- the next round starts from the core of the rest
  pub goes_on : (i : ℕ) → i < rounds g le k → (left g le k (suc i) ≡ core g k (without (left g le k i) (key g le k i))) × (own g le k i ≡ dropped g k (left g le k i) (key g le k i))
  -- keys rise
  pub rising : (i j : ℕ) → i < j → j < rounds g le k → Below le (key g le k i) (key g le k j)
  -- every circle is of one round
  pub complete : (S : Set) (w : ℕ) → Circle g le k S → Weakest le S w → (i : ℕ) × (i < rounds g le k) × (key g le k i ≡ w) × (circle g le k i ≡ S)
  -- each person of the core is dropped in one round, and is left before each round up to it
  pub once : (u : ℕ) → u ∈ core g k (everyone g) → (round g le k u < rounds g le k) × (u ∈ own g le k (round g le k u)) × ((i : ℕ) → u ∈ own g le k i → round g le k u ≡ i)
  pub stays : (u : ℕ) → u ∈ core g k (everyone g) → (i : ℕ) → (u ∈ left g le k i → i ≤ round g le k u) × (i ≤ round g le k u → u ∈ left g le k i)
  -- somebody is left before each round, and nobody in the end
  pub ended : (i u : ℕ) → u ∈ left g le k i → (i < rounds g le k) × (u ∈ core g k (everyone g))
  pub few : rounds g le k ≤ g.size

abbrev pub RoundsMeetCirclesOnce : Type 0
RoundsMeetCirclesOnce = (g : Graph) → Lawful g → (le : Relation) → Order le → Strict le → (k : ℕ) → Rounded g le k

abbrev pub RoundsBySteps : Type 0
RoundsBySteps =
    (g : Graph) → Lawful g → (le : Relation) → Order le → Strict le → (k i : ℕ) →
    ((w : ℕ) → Weakest le (left g le k i) w → (i < rounds g le k) × (key g le k i ≡ w) × (circle g le k i ≡ component g (left g le k i) w) × (left g le k (suc i) ≡ core g k (without (left g le k i) w)) × (own g le k i ≡ dropped g k (left g le k i) w))
    × (((u : ℕ) → u ∈ left g le k i → ⊥) → rounds g le k ≤ i)

abbrev pub PeelingIsRounds : Type 0
PeelingIsRounds =
    (g : Graph) → Lawful g → (le : Relation) → Order le → Strict le → (k : ℕ) →
    peel g le k g.size (core g k (everyone g)) ≡ map (λ i. (key g le k i, circle g le k i)) (range_with_len 0 (rounds g le k))

abbrev pub InnermostByRounds : Type 0
InnermostByRounds =
    (g : Graph) → Lawful g → (le : Relation) → Order le → Strict le → (k i : ℕ) → i < rounds g le k →
    (Innermost (Circle g le k) (circle g le k i) → (own g le k i ≡ circle g le k i) × ((j : ℕ) → j < rounds g le k → holder g le k j ≢ some i))
    × (own g le k i ≡ circle g le k i → Innermost (Circle g le k) (circle g le k i))
    × (count (own g le k i) g.size ≡ count (circle g le k i) g.size → Innermost (Circle g le k) (circle g le k i))
    × (((j : ℕ) → j < rounds g le k → holder g le k j ≢ some i) → Innermost (Circle g le k) (circle g le k i))

abbrev pub RoundsList : Type 0
RoundsList =
    (g : Graph) → Lawful g → (le : Relation) → Order le → Strict le → (k r : ℕ) (choice : Choice) →
    listing g le k r choice ≡ map (λ i. (key g le k i, members (circle g le k i) g.size)) (last r (filter (chosen_round g le k choice) (range_with_len 0 (rounds g le k))))
