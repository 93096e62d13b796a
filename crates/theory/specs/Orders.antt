-- Orders of persons by strength: with persons who may be level, and with the ties broken by number. Assumes nothing.
--     Order le                    le u v, `u is at most as strong as v`, compares any two persons and chains
--     Strict le                   no two persons are level
--     StrictOrder le              le is an order in which no two persons are level
--     Below le u v                u is weaker than v
--     Weakest le S w              w is a weakest member of S
--     by_grade grade              at most as strong, by a number for each person
--     Ranking le weaker           weaker is a strict order of all persons, and agrees with le
--     Named weaker S w            w is weaker than every other member of S
--     by_number le                weaker, by le and among level persons by number: the smaller number is weaker
--     not_after weaker            at most as strong, of a strict order
--     tie_broken le               at most as strong, by le and then by number: no two are level
--     weakest le S n              a weakest member of S below n, if there is one
use Rattle.std.specs.Prelude.{◌≡◌, ℕ, zero, suc, true, false, cond, not, ◌&&◌, ◌||◌, ◌≢◌, ◌⊎◌, nat_le, nat_lt}
use Rattle.std.proofs.Math.Option.{Option, some, none}
use Rattle.theory.specs.Sets.{Set, Relation, ◌∈◌}

pub record Order (le : Relation) : Type 0 where
  pub total : (u v : ℕ) → (le u v ≡ true) ⊎ (le v u ≡ true)
  pub chain : (u v w : ℕ) → le u v ≡ true → le v w ≡ true → le u w ≡ true

abbrev pub Strict : Relation → Type 0
Strict le = (u v : ℕ) → le u v ≡ true → le v u ≡ true → u ≡ v

abbrev pub StrictOrder : Relation → Type 0
StrictOrder le = Order le × Strict le

abbrev pub Below : Relation → ℕ → ℕ → Type 0
Below le u v = (le u v ≡ true) × (le v u ≡ false)

abbrev pub Weakest : Relation → Set → ℕ → Type 0
Weakest le S w = (w ∈ S) × ((v : ℕ) → v ∈ S → le w v ≡ true)

unfoldable pub by_grade : (ℕ → ℕ) → Relation
by_grade grade u v = nat_le (grade u) (grade v)

-- ---- strict orders

pub record Ranking (le weaker : Relation) : Type 0 where
  pub one_way : (u v : ℕ) → weaker u v ≡ true → weaker v u ≡ false
  pub through : (u v w : ℕ) → weaker u v ≡ true → weaker v w ≡ true → weaker u w ≡ true
  pub either : (u v : ℕ) → u ≢ v → (weaker u v ≡ true) ⊎ (weaker v u ≡ true)
  pub agrees : (u v : ℕ) → weaker u v ≡ true → le u v ≡ true

abbrev pub Named : Relation → Set → ℕ → Type 0
Named weaker S w = (w ∈ S) × ((v : ℕ) → v ∈ S → v ≢ w → weaker w v ≡ true)

unfoldable pub by_number : Relation → Relation
by_number le u v = le u v && (not (le v u) || nat_lt u v)

unfoldable pub not_after : Relation → Relation
not_after weaker u v = not (weaker v u)

abbrev pub tie_broken : Relation → Relation
tie_broken le = not_after (by_number le)

-- ---- as a function

abbrev pub weaker_of : Relation → ℕ → Option ℕ → ℕ
weaker_of le n none = n
weaker_of le n (some w) = cond (le w n) w n

unfoldable pub weakest : Relation → Set → ℕ → Option ℕ
weakest le S zero = none
weakest le S (suc n) = cond (S n) (some (weaker_of le n (weakest le S n))) (weakest le S n)
