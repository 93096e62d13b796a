-- Which circle holds which: by circles, and by rounds. Assumes nothing.
--     HolderOf g le k S h         h is the weakest person of the smallest other circle that holds S, or none if no other does
--     last_below p n              the last number below n that passes
--     holder g le k i             the last round before i whose circle has the key of i
--     Reaches g le k a c          from round a to round c by following holders
--     is j h                      is h the number j
--     chosen_round g le k choice i the choice, of rounds: every round, or those that are no round's holder
--     held_by g le k j f          f of the rounds that j is the holder of, 0 of the others
--     total_from f j n            the sum of f over the numbers from j to n
use Rattle.std.specs.Prelude.{◌≡◌, ℕ, zero, suc, Bool, true, false, cond, not, ◌==◌, nat_le}
use Rattle.std.proofs.Math.Option.{Option, some, none}
use Rattle.theory.specs.Sets.{Set, Relation, ◌⊆◌, Larger, total, any}
use Rattle.theory.specs.Graphs.{Graph}
use Rattle.theory.specs.Orders.{Weakest}
use Rattle.theory.specs.Circles.{Circle}
use Rattle.theory.specs.Listing.{Choice, every, innermost}
use Rattle.forest.specs.Rounds.{key, circle, rounds}

abbrev pub HolderOf : Graph → Relation → ℕ → Set → Option ℕ → Type 0
HolderOf g le k S none = (S' : Set) → Circle g le k S' → Larger S S' → ⊥
HolderOf g le k S (some h) =
    (S' : Set) × Circle g le k S' × Weakest le S' h × Larger S S' × ((S'' : Set) → Circle g le k S'' → Larger S S'' → S' ⊆ S'')

unfoldable pub last_below : Set → ℕ → Option ℕ
last_below p zero = none
last_below p (suc n) = cond (p n) (some n) (last_below p n)

unfoldable pub holder : Graph → Relation → ℕ → ℕ → Option ℕ
holder g le k i = last_below (λ j. circle g le k j (key g le k i)) i

pub data Reaches (g : Graph) (le : Relation) (k : ℕ) : ℕ → ℕ → Type 0 where
  there : {a : ℕ} → Reaches g le k a a
  up : {a b c : ℕ} → holder g le k a ≡ some b → Reaches g le k b c → Reaches g le k a c

abbrev pub is : ℕ → Option ℕ → Bool
is w none = false
is w (some x) = x == w

unfoldable pub chosen_round : Graph → Relation → ℕ → Choice → ℕ → Bool
chosen_round g le k every i = true
chosen_round g le k innermost i = not (any (λ j. is i (holder g le k j)) (rounds g le k))

abbrev pub held_by : Graph → Relation → ℕ → ℕ → (ℕ → ℕ) → ℕ → ℕ
held_by g le k j f i = cond (is j (holder g le k i)) (f i) 0

unfoldable pub total_from : (ℕ → ℕ) → ℕ → ℕ → ℕ
total_from f j n = total (λ i. cond (nat_le j i) (f i) 0) n
