-- Neighbours that were copied, and counts over them. Assumes nothing.
use Rattle.std.proofs.Common.{◌≡◌, ℕ, zero, suc, ◌+◌, ◌<◌, ◌≤◌, Bool, true, false, cond, eqb, ◌≢◌, ◌⊎◌, List, ◌∷◌, ◌++◌, length, get_or, take, drop, count_by, filter, sym, refl, ap, ◌∙◌, inl, inr, arith}
use Rattle.std.specs.List.{range_with_len}
use Rattle.std.proofs.lemmas.List.{get_or_append_left, take_all, take-take, take-append-drop}
use Rattle.std.proofs.lemmas.List.Sums.{sum_by-cons, sum_by-append}
use Rattle.std.proofs.lemmas.Bool.{cases_eq, eq-eqb, ne_eqb}
use Rattle.grades.specs.Places.{onto}
use Rattle.networks.specs.Net.{Net, neighbours, degree_of}
use Rattle.networks.proofs.Rising.{kept_below, kept_few}

pub degree_le : {G : Type 0} (net : Net G) (u : ℕ) → degree_of net u ≤ net.persons
degree_le net u = kept_few (net.linked u) 0 net.persons

-- what stands at i of the neighbours of u that were copied over `old`
pub near_at : {G : Type 0} (net : Net G) (u i : ℕ) (out old : List ℕ) → length old ≡ net.persons → out ≡ onto (neighbours net u) old → i < degree_of net u
    → (get_or out i 0 ≡ get_or (neighbours net u) i 0) × (get_or out i 0 < net.persons)
near_at net u i out old l e h =
    let A = neighbours net u in
    let s : get_or out i 0 ≡ get_or A i 0 =
    ap (λ t. get_or t i 0) e ∙ ap (λ t. get_or (t ++ drop (length A) old) i 0) (take_all (length old) A (omega (arith, degree_le net u))) ∙ get_or_append_left A (drop (length A) old) 0 i h in
    (s, omega (arith, s, kept_below (net.linked u) net.persons i 0 h))

pub head_other : (v x : ℕ) (rest : List ℕ) → v ≢ x → count_by (eqb v) (x ∷ rest) ≡ count_by (eqb v) rest
head_other v x rest d =
    let none : ◌≡◌ {A = ℕ} (cond (eqb v x) 1 0) 0 = ap (λ b. cond b 1 0) (ne_eqb v x d) in
    omega (arith, none, sum_by-cons (λ y. cond (eqb v y) 1 0) x rest)

pub head_same : (x : ℕ) (rest : List ℕ) → count_by (eqb x) (x ∷ rest) ≡ 1 + count_by (eqb x) rest
head_same x rest =
    let one : ◌≡◌ {A = ℕ} (cond (eqb x x) 1 0) 1 = ap (λ b. cond b 1 0) (eq-eqb x x refl) in
    omega (arith, one, sum_by-cons (λ y. cond (eqb x y) 1 0) x rest)

count_before : (q : ℕ → Bool) (v a n : ℕ) → v < a → count_by (eqb v) (filter q (range_with_len a n)) ≡ 0
count_before q v a zero l = refl
count_before q v a (suc n) l = go (q a) (count_before q v (a + 1) n (omega arith))
  where
    go : (b : Bool) → count_by (eqb v) (filter q (range_with_len (a + 1) n)) ≡ 0 → count_by (eqb v) (cond b (a ∷ filter q (range_with_len (a + 1) n)) (filter q (range_with_len (a + 1) n))) ≡ 0
    go true ih = omega (arith, head_other v a (filter q (range_with_len (a + 1) n)) (λ e. omega arith), ih)
    go false ih = ih

count_at : (q : ℕ → Bool) (v a n : ℕ) → a ≤ v → v < a + n → count_by (eqb v) (filter q (range_with_len a n)) ≡ cond (q v) 1 0
count_at q v a zero l h = absurd (omega arith)
count_at q v a (suc n) l h = go (q a) refl (cases_eq v a) (count_at q v (a + 1) n)
  where
    go : (b : Bool) → q a ≡ b → (v ≡ a) ⊎ (v ≡ a → ⊥) → (a + 1 ≤ v → v < a + 1 + n → count_by (eqb v) (filter q (range_with_len (a + 1) n)) ≡ cond (q v) 1 0) → count_by (eqb v) (cond b (a ∷ filter q (range_with_len (a + 1) n)) (filter q (range_with_len (a + 1) n))) ≡ cond (q v) 1 0
    go true e (inl s) ih =
        let one : ◌≡◌ {A = ℕ} (cond (eqb v a) 1 0) 1 = ap (λ b. cond b 1 0) (eq-eqb v a s) in
        let here : ◌≡◌ {A = ℕ} (cond (q v) 1 0) 1 = ap (λ y. cond (q y) 1 0) s ∙ ap (λ b. cond b 1 0) e in
        omega (arith, one, sum_by-cons (λ y. cond (eqb v y) 1 0) a (filter q (range_with_len (a + 1) n)), count_before q v (a + 1) n (omega arith), here)
    go false e (inl s) ih =
        let none : ◌≡◌ {A = ℕ} (cond (q v) 1 0) 0 = ap (λ y. cond (q y) 1 0) s ∙ ap (λ b. cond b 1 0) e in
        omega (arith, count_before q v (a + 1) n (omega arith), none)
    go true e (inr d) ih = omega (arith, head_other v a (filter q (range_with_len (a + 1) n)) d, ih (omega arith) (omega arith))
    go false e (inr d) ih = ih (omega arith) (omega arith)

-- v stands among the neighbours of u once, or not at all
pub neighbours_count : {G : Type 0} (net : Net G) (u v : ℕ) → v < net.persons → count_by (eqb v) (neighbours net u) ≡ cond (net.linked u v) 1 0
neighbours_count net u v l = count_at (net.linked u) v 0 net.persons (omega arith) (omega arith)

-- a longer front has as many at least; what is between two fronts has the rest
pub front_splits : (p : ℕ → Bool) (h t : ℕ) (xs : List ℕ) → h ≤ t → count_by p (take t xs) ≡ count_by p (take h xs) + count_by p (drop h (take t xs))
front_splits p h t xs l =
    ap (count_by p) (sym (take-append-drop h (take t xs)))
    ∙ sum_by-append (λ y. cond (p y) 1 0) (take h (take t xs)) (drop h (take t xs))
    ∙ ap (λ ys. count_by p ys + count_by p (drop h (take t xs))) (take-take h t xs l)
