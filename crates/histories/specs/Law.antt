-- The law over every list of calls, for any kind of network, grade and change. Assumes nothing.
--     is_change c, is_plant c     is the call a change, or a plant
--     Planted calls answers i     before call i a plant was granted, and no change since
--     Right le k d size planted c a   the answer a to the call c is right where the calls before drew d, the tree has room for size entries, and there is a tree or none
--     Nests g le                  how the circles of a network lie in one another
--     Kept le k d0 size calls answers   the law: of the calls on what was opened as d0, with these answers
use Rattle.std.specs.Prelude.{◌≡◌, ℕ, suc, ◌*◌, ◌<◌, ◌≤◌, Bool, true, false, ◌⊎◌, List, length, take, ◌≢◌, slice_index_or}
use Rattle.faults.specs.declared.call_fault.CallFault.TheVariants.{NoTree}
use Rattle.networks.specs.Net.{Net}
use Rattle.meaning.specs.Persons.{graph_of, order_of}
use Rattle.theory.specs.Sets.{Set, Relation, ◌⊆◌, Apart}
use Rattle.theory.specs.Graphs.{Graph, links}
use Rattle.theory.specs.Orders.{Weakest}
use Rattle.theory.specs.Circles.{Circle}
use Rattle.theory.specs.Listing.{Entry, Lists}
use Rattle.cores.specs.Answer.{cores_fault}
use Rattle.queries.specs.declared.query.Query.{Query}
use Rattle.queries.specs.Choosing.{choice_of}
use Rattle.queries.specs.Refusals.{peel_fault, pick_fault, plant_fault}
use Rattle.histories.specs.declared.call.Call.{Call}
use Rattle.histories.specs.declared.call.Call.TheVariants.{Change, Cores, Peel, Plant, Pick, Holder}
use Rattle.histories.specs.Edits.{Edits, drawn_by}
use Rattle.histories.specs.Answers.{Told, done, refused, numbers, circles, entries, said, granted, Numbered, sum_of, Cored, Holding}

abbrev pub is_change : {C : Type 0} → Call C → Bool
is_change (Change e) = true
is_change _ = false

abbrev pub is_plant : {C : Type 0} → Call C → Bool
is_plant (Plant m) = true
is_plant _ = false

abbrev pub call_at : {C : Type 0} → List (Call C) → ℕ → Call C
call_at calls i = slice_index_or calls i (Cores (record { scratch = 0; waiting = 0; heads = 0; places = 0 }))

abbrev pub answer_at : List Told → ℕ → Told
answer_at answers i = slice_index_or answers i (refused NoTree)

pub record Planted {C : Type 0} (calls : List (Call C)) (answers : List Told) (i : ℕ) : Type 0 where
  pub place : ℕ
  pub before : place < i
  pub plant : is_plant (call_at calls place) ≡ true
  pub given : granted (answer_at answers place) ≡ true
  pub since : (m : ℕ) → place < m → m < i → is_change (call_at calls m) ≡ true → granted (answer_at answers m) ≢ true

-- the listing L of the query: the r strongest circles, or all if there are fewer, each once, rising, and no other set
abbrev pub Listed : {G : Type 0} → (G → G → Bool) → Net G → Query → List Entry → Type 0
Listed le net q = Lists (graph_of net) (order_of le net) q.k q.r (choice_of q.choice)

abbrev pub Right : {G D C : Type 0} → (G → G → Bool) → Edits G D C → D → ℕ → Type 0 → Call C → Told → Type 0
Right le k d size planted (Change e) a = a ≡ said (k.refusal d e) done
Right le k d size planted (Cores m) a =
    (cs : List ℕ) × Numbered (graph_of (k.means d)) cs × Cored (graph_of (k.means d)) (order_of le (k.means d)) cs
    × (a ≡ said (cores_fault (k.means d).persons m.scratch m.places) (numbers cs))
Right le k d size planted (Peel q m) a =
    (L : List Entry) × Listed le (k.means d) q L
    × (a ≡ said (peel_fault (k.means d).persons m.scratch m.waiting L m.heads m.places) (circles L))
Right le k d size planted (Plant m) a =
    (cs : List ℕ) × Numbered (graph_of (k.means d)) cs × (sum_of cs ≤ 2 * links (graph_of (k.means d)))
    × (a ≡ said (plant_fault (k.means d).persons m.scratch m.waiting (sum_of cs) size) (entries (sum_of cs)))
Right le k d size planted (Pick q m) a =
    (planted → (L : List Entry) × Listed le (k.means d) q L
    × (a ≡ said (pick_fault true (k.means d).persons m.scratch L m.heads m.places) (circles L)))
    × ((planted → ⊥) → a ≡ refused NoTree)
Right le k d size planted (Holder q w) a =
    (planted → Holding (graph_of (k.means d)) (order_of le (k.means d)) q.k w a)
    × ((planted → ⊥) → a ≡ refused NoTree)

pub record Nests (g : Graph) (le : Relation) : Type 0 where
  pub apart : (k : ℕ) (S S' : Set) → 1 ≤ k → Circle g le k S → Circle g le k S' → Apart S S' ⊎ ((S ⊆ S') ⊎ (S' ⊆ S))
  pub deeper : (k w : ℕ) (S : Set) → 1 ≤ k → Circle g le (suc k) S → Weakest le S w → (S' : Set) × Circle g le k S' × Weakest le S' w × (S ⊆ S')

pub record Kept {G D C : Type 0} (le : G → G → Bool) (k : Edits G D C) (d0 : D) (size : ℕ) (calls : List (Call C)) (answers : List Told) : Type 0 where
  pub one_for_one : length answers ≡ length calls
  pub each : (i : ℕ) → i < length calls →
      Right le k (drawn_by k d0 (take i calls)) size (Planted calls answers i) (call_at calls i) (answer_at answers i)
  -- before each call, and after the last
  pub nests : (i : ℕ) → i ≤ length calls →
      Nests (graph_of (k.means (drawn_by k d0 (take i calls)))) (order_of le (k.means (drawn_by k d0 (take i calls))))
