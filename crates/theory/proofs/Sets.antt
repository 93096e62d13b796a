-- Two tests that agree, sets with the same members, and the parts of a set.
use Rattle.std.proofs.Common.{◌≡◌, ℕ, ◌<◌, Bool, true, false, eqb, ltb, ◌≢◌, sym, refl}
use mathlib.Core.Path.{fun_ext}
use Rattle.std.proofs.lemmas.Bool.{and_from, and_parts, eqb-false, lt-ltb, ltb-true, ne_eqb, not_from_false, not-true}
use Rattle.theory.specs.Sets.{below, minus, Set, without, ◌∈◌, ◌⊆◌}

-- two tests that imply one another agree
pub same_test : (a b : Bool) → (a ≡ true → b ≡ true) → (b ≡ true → a ≡ true) → a ≡ b
same_test true b f g = sym (f refl)
same_test false true f g = g refl
same_test false false f g = refl

-- what cannot be true is false
pub false_since : (b : Bool) → (b ≡ true → ⊥) → b ≡ false
false_since true h = absurd (h refl)
false_since false h = refl

pub same_set : (S S' : Set) → S ⊆ S' → S' ⊆ S → S ≡ S'
same_set S S' f g = fun_ext (λ v. same_test (S v) (S' v) (f v) (g v))

pub below_in : (n : ℕ) (p : Set) (v : ℕ) → v < n → v ∈ p → v ∈ below n p
unfolding below
below_in n p v l m = and_from (ltb v n) (p v) (lt-ltb v n l) m

pub below_within : (n : ℕ) (p : Set) (v : ℕ) → v ∈ below n p → v < n
unfolding below
below_within n p v m = ltb-true v n (and_parts (ltb v n) (p v) m).0

pub below_from : (n : ℕ) (p : Set) → below n p ⊆ p
unfolding below
below_from n p v m = (and_parts (ltb v n) (p v) m).1

pub without_in : (S : Set) (w v : ℕ) → v ∈ S → v ≢ w → v ∈ without S w
unfolding without
without_in S w v m d = and_from (S v) _ m (not_from_false (eqb v w) (ne_eqb v w d))

pub without_from : (S : Set) (w v : ℕ) → v ∈ without S w → (v ∈ S) × (v ≢ w)
unfolding without
without_from S w v m = let (a, b) = and_parts (S v) _ m in (a, eqb-false v w (not-true (eqb v w) b))

pub minus_in : (S T : Set) (v : ℕ) → v ∈ S → T v ≡ false → v ∈ minus S T
unfolding minus
minus_in S T v m f = and_from (S v) _ m (not_from_false (T v) f)

pub minus_from : (S T : Set) (v : ℕ) → v ∈ minus S T → (v ∈ S) × (T v ≡ false)
unfolding minus
minus_from S T v m = let (a, b) = and_parts (S v) _ m in (a, not-true (T v) b)
