-- A lane as the set of those who stand, and marks in it. Assumes nothing.
use Rattle.std.proofs.Common.{◌≡◌, ℕ, ◌<◌, ◌≤◌, false, ◌⊎◌, List, length, get_or, set, sym, ap, ◌∙◌, inl, inr, arith}
use Rattle.std.proofs.lemmas.List.{get_or_past, get_or_default, get_or-set_same, get_or-set_other}
use Rattle.std.proofs.lemmas.Bool.{cases_lt, cases_eq, eqb-true, eq-eqb, ne_eqb}
use Rattle.theory.specs.Sets.{◌∈◌, count, without}
use Rattle.theory.proofs.Counting.{without_less}
use Rattle.theory.proofs.Sets.{same_set, without_in, without_from}
use Rattle.cores.specs.Lanes.{alive, Marked}

pub alive_in : (fell : List ℕ) (v : ℕ) → get_or fell v 1 ≡ 0 → v ∈ alive fell
unfolding alive
alive_in fell v e = eq-eqb (get_or fell v 1) 0 e

pub alive_from : (fell : List ℕ) (v : ℕ) → v ∈ alive fell → get_or fell v 1 ≡ 0
unfolding alive
alive_from fell v m = eqb-true (get_or fell v 1) 0 m

alive_not : (fell : List ℕ) (v : ℕ) → (get_or fell v 1 ≡ 0 → ⊥) → alive fell v ≡ false
unfolding alive
alive_not fell v n = ne_eqb (get_or fell v 1) 0 n

pub alive_within : (fell : List ℕ) (v : ℕ) → v ∈ alive fell → v < length fell
alive_within fell v m = elim (cases_lt v (length fell)) [ inl l ↦ l | inr l ↦ absurd (omega (arith, alive_from fell v m, get_or_past fell v 1 l)) ]

pub alive_past : (fell : List ℕ) (v : ℕ) → length fell ≤ v → alive fell v ≡ false
alive_past fell v l = alive_not fell v (λ e. omega (arith, get_or_past fell v 1 l))

-- as a program reads it
pub alive_read : (fell : List ℕ) (v : ℕ) → v < length fell → get_or fell v 0 ≡ 0 → v ∈ alive fell
alive_read fell v l e = alive_in fell v (omega (arith, get_or_default fell v 0 1 l))

pub alive_read_not : (fell : List ℕ) (v : ℕ) → v < length fell → (get_or fell v 0 ≡ 0 → ⊥) → alive fell v ≡ false
alive_read_not fell v l n = alive_not fell v (λ e. n (omega (arith, get_or_default fell v 0 1 l)))

pub alive_set : (fell : List ℕ) (x mark : ℕ) → 0 < mark → x < length fell → alive (set fell x mark) ≡ without (alive fell) x
alive_set fell x mark p l = same_set (alive (set fell x mark)) (without (alive fell) x) (λ v m. there v m (cases_eq v x)) (λ v m. let (a, d) = without_from (alive fell) x v m in alive_in (set fell x mark) v (get_or-set_other fell x v mark 1 d ∙ alive_from fell v a))
  where
    there : (v : ℕ) → v ∈ alive (set fell x mark) → (v ≡ x) ⊎ (v ≡ x → ⊥) → v ∈ without (alive fell) x
    there v m (inl e) = let z : get_or (set fell x mark) x 1 ≡ 0 = alive_from (set fell x mark) x (rw e at m) in absurd (omega (arith, z, get_or-set_same fell x mark 1 l))
    there v m (inr d) = without_in (alive fell) x v (alive_in fell v (sym (get_or-set_other fell x v mark 1 d) ∙ alive_from (set fell x mark) v m)) d

pub set_fewer : (n : ℕ) (fell : List ℕ) (x mark : ℕ) → 0 < mark → length fell ≡ n → x ∈ alive fell → count (alive (set fell x mark)) n < count (alive fell) n
set_fewer n fell x mark p l a =
    let i : x < length fell = alive_within fell x a in
    let e : alive (set fell x mark) ≡ without (alive fell) x = alive_set fell x mark p i in
    rw e (without_less (alive fell) x n (omega arith) a)

pub marked_set : (mark : ℕ) (old fell : List ℕ) (x : ℕ) → x < length fell → x ∈ alive fell → Marked mark old fell → Marked mark old (set fell x mark)
marked_set mark old fell x l a m v = go (cases_eq v x) (m v)
  where
    go : (v ≡ x) ⊎ (v ≡ x → ⊥) → (get_or fell v 1 ≡ get_or old v 1) ⊎ ((get_or old v 1 ≡ 0) × (get_or fell v 1 ≡ mark)) → (get_or (set fell x mark) v 1 ≡ get_or old v 1) ⊎ ((get_or old v 1 ≡ 0) × (get_or (set fell x mark) v 1 ≡ mark))
    go (inl e) (inl s) = inr (sym s ∙ ap (λ y. get_or fell y 1) e ∙ alive_from fell x a, ap (λ y. get_or (set fell x mark) y 1) e ∙ get_or-set_same fell x mark 1 l)
    go (inl e) (inr (o, n)) = inr (o, ap (λ y. get_or (set fell x mark) y 1) e ∙ get_or-set_same fell x mark 1 l)
    go (inr d) (inl s) = inl (get_or-set_other fell x v mark 1 d ∙ s)
    go (inr d) (inr (o, n)) = inr (o, get_or-set_other fell x v mark 1 d ∙ n)
