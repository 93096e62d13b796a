-- The listing for k, r and a choice: the r strongest circles, of all or of the innermost, rising. Assumes nothing.
--     Choice                      every circle for k, or the innermost ones
--     Chosen IsCircle choice S    S is a circle, and innermost if those are asked for
--     Strongest Wanted Weaker r xs   xs has the r strongest that are wanted, or all if there are fewer, rising
--     Entry                       a circle in a listing: its weakest person, and its members
--     Entered g le k choice e     e is the entry of a circle that is chosen
--     Lists g le k r choice es    es is the listing for k, r and the choice
--     Wanted g le weaker k choice w     w names, by weaker, a chosen circle, where persons may be level
--     LevelLists g le weaker k r choice ws   ws are the names of the listing, where persons may be level
--     names g le weaker k r choice      the names of the listing, as a function
--     listing g le k r choice     the listing, as a function
use Rattle.std.specs.Prelude.{◌≡◌, ℕ, zero, suc, ◌-◌, ◌≤◌, Bool, true, cond, not, ◌&&◌, ◌⊎◌, List, [], ◌∷◌, map, length, drop, filter, ◌==◌}
use Rattle.std.specs.List.{AllByRecursion}
use Rattle.theory.specs.Sets.{Set, Relation, ◌∈◌, any, ◌among◌, Pairwise, members, ListOf}
use Rattle.theory.specs.Graphs.{Graph}
use Rattle.theory.specs.Orders.{Below, Weakest, Named, by_number}
use Rattle.theory.specs.Circles.{Circle, LevelCircle, Innermost}
use Rattle.theory.specs.Cores.{core, above, circle_at}

pub data Choice : Type 0 where
  every innermost : Choice

abbrev pub Chosen : (Set → Type 0) → Choice → Set → Type 0
Chosen IsCircle every S = IsCircle S
Chosen IsCircle innermost S = IsCircle S × Innermost IsCircle S

-- who is wanted and left out is weaker than all that are there, and then r are there
pub record Strongest {A : Type 0} (Wanted : A → Type 0) (Weaker : A → A → Type 0) (r : ℕ) (xs : List A) : Type 0 where
  pub each : AllByRecursion Wanted xs
  pub rising : Pairwise Weaker xs
  pub few : length xs ≤ r
  pub strongest : (x : A) → Wanted x → (x among xs) ⊎ ((length xs ≡ r) × AllByRecursion (Weaker x) xs)

abbrev pub Entry : Type 0
Entry = ℕ × List ℕ

abbrev pub Entered : Graph → Relation → ℕ → Choice → Entry → Type 0
Entered g le k choice e = (S : Set) × Chosen (Circle g le k) choice S × Weakest le S e.0 × ListOf (λ v. v ∈ S) e.1

-- one circle is below another when its weakest person is weaker
abbrev pub Lists : Graph → Relation → ℕ → ℕ → Choice → List Entry → Type 0
Lists g le k r choice = Strongest (Entered g le k choice) (λ e f. Below le e.0 f.0) r

-- ---- where persons may be level

abbrev pub Wanted : Graph → Relation → Relation → ℕ → Choice → ℕ → Type 0
Wanted g le weaker k choice w = (S : Set) × Chosen (LevelCircle g le k) choice S × Named weaker S w

abbrev pub LevelLists : Graph → Relation → Relation → ℕ → ℕ → Choice → List ℕ → Type 0
LevelLists g le weaker k r choice = Strongest (Wanted g le weaker k choice) (λ u v. weaker u v ≡ true) r

-- ---- as functions

unfoldable pub insert : Relation → ℕ → List ℕ → List ℕ
insert weaker x [] = x ∷ []
insert weaker x (y ∷ ys) = cond (weaker x y) (x ∷ y ∷ ys) (y ∷ insert weaker x ys)

-- the persons below n, rising
unfoldable pub ranked : Relation → ℕ → List ℕ
ranked weaker zero = []
ranked weaker (suc n) = insert weaker n (ranked weaker n)

-- does w name a circle
unfoldable pub is_name : Graph → Relation → Relation → ℕ → ℕ → Bool
is_name g le weaker k w = core g k (above le w) w && not (any (λ v. circle_at g le k w v && weaker v w) g.size)

unfoldable pub is_chosen : Graph → Relation → Relation → ℕ → Choice → ℕ → Bool
is_chosen g le weaker k every w = is_name g le weaker k w
is_chosen g le weaker k innermost w = is_name g le weaker k w && not (any (λ v. circle_at g le k w v && (is_name g le weaker k v && not (v == w))) g.size)

unfoldable pub last : {A : Type 0} → ℕ → List A → List A
last r xs = drop (length xs - r) xs

unfoldable pub names : Graph → Relation → Relation → ℕ → ℕ → Choice → List ℕ
names g le weaker k r choice = last r (filter (is_chosen g le weaker k choice) (ranked weaker g.size))

unfoldable pub entry : Graph → Relation → ℕ → ℕ → Entry
entry g le k w = (w, members (circle_at g le k w) g.size)

unfoldable pub listing : Graph → Relation → ℕ → ℕ → Choice → List Entry
listing g le k r choice = map (entry g le k) (names g le (by_number le) k r choice)
