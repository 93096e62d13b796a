-- What a network and a tree stand for while calls are made of them. Assumes nothing.
--     Stands k d0 size calls answers d room valid Tree   a drawn state, and a tree's room, validity and memory, stand for a history
--     Step le k .. c a            one call: for every history that the state stood for, the answer is right, and the state stands for the longer history
--     Ran le k .. calls first last   a list of calls: the same, and the law is kept
use Rattle.std.specs.Prelude.{◌≡◌, ℕ, Bool, true, List, [], ◌∷◌, ◌++◌, length}
use Rattle.networks.specs.Net.{Net}
use Rattle.histories.specs.declared.call.Call.{Call}
use Rattle.histories.specs.Edits.{Edits, drawn_by}
use Rattle.histories.specs.Answers.{Told}
use Rattle.histories.specs.Law.{Planted, Right, Kept}

-- Tree net says that the tree's memory is the tree of the network
pub record Stands {G D C : Type 0} (k : Edits G D C) (d0 : D) (size : ℕ) (calls : List (Call C)) (answers : List Told) (d : D) (room : ℕ) (valid : Bool) (Tree : Net G → Type 0) : Type 0 where
  pub told : length answers ≡ length calls
  pub state : d ≡ drawn_by k d0 calls
  pub roomy : room ≡ size
  pub planted : valid ≡ true → Planted calls answers (length calls)
  pub valid_if : Planted calls answers (length calls) → valid ≡ true
  pub grown : valid ≡ true → Tree (k.means d)

abbrev pub Step : {G D C : Type 0} → (G → G → Bool) → Edits G D C → D → ℕ → Bool → (Net G → Type 0) → D → ℕ → Bool → (Net G → Type 0) → Call C → Told → Type 0
Step {G} {D} {C} le k d room valid Tree d' room' valid' Tree' c a =
    (d0 : D) (size : ℕ) (calls : List (Call C)) (answers : List Told) → Stands k d0 size calls answers d room valid Tree →
    Right le k (drawn_by k d0 calls) size (Planted calls answers (length calls)) c a
    × Stands k d0 size (calls ++ c ∷ []) (answers ++ a ∷ []) d' room' valid' Tree'

abbrev pub Ran : {G D C : Type 0} → (G → G → Bool) → Edits G D C → D → ℕ → Bool → (Net G → Type 0) → D → ℕ → Bool → (Net G → Type 0) → List (Call C) → List Told → List Told → Type 0
Ran {G} {D} {C} le k d room valid Tree d' room' valid' Tree' calls first last =
    (d0 : D) (size : ℕ) (past : List (Call C)) → Stands k d0 size past first d room valid Tree → Kept le k d0 size past first →
    Kept le k d0 size (past ++ calls) last × Stands k d0 size (past ++ calls) last d' room' valid' Tree'
