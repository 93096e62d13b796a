-- Elements of lists: what is kept, dropped and mapped, and pairs in order.
use Rattle.std.proofs.Common.{◌≡◌, ℕ, zero, suc, ◌+◌, ◌<◌, Bool, true, false, cond, not, ◌&&◌, eqb, ◌≢◌, ◌⊎◌, List, [], ◌∷◌, ◌++◌, map, drop, count_by, filter, sym, refl, ap, ◌∙◌, subst, inl, inr, arith}
use mathlib.Core.Bool.{and-false, and-true}
use Rattle.std.specs.List.{AllByRecursion}
use Rattle.std.proofs.ByRecursion.{All-drop, all_kept_by, All-map, All-weaker}
use Rattle.std.proofs.lemmas.List.Sums.{sum_by-cons}
use Rattle.std.proofs.lemmas.Bool.{and_parts, both_ways, eq-eqb, eqb-true, or_cases, or_left, or_right}
use Rattle.theory.specs.Sets.{◌among◌, any_of, bit, count, has, Pairwise, Set, without, ◌∈◌}
use Rattle.theory.proofs.Counting.{count_none, count_same, count_split}
use Rattle.theory.proofs.Sets.{without_from, without_in}

pub among_drop : {A : Type 0} (R : A → A → Type 0) (n : ℕ) (xs : List A) (x : A) → Pairwise R xs → x among xs → (x among drop n xs) ⊎ AllByRecursion (R x) (drop n xs)
among_drop R zero xs x p m = inl m
among_drop R (suc n) [] x p m = absurd m
among_drop R (suc n) (y ∷ ys) x p (inl e) = inr (rw e (All-drop (R y) n ys p.0))
among_drop R (suc n) (y ∷ ys) x p (inr m) = among_drop R n ys x p.1 m

pub drop_among : {A : Type 0} (n : ℕ) (xs : List A) (x : A) → x among drop n xs → x among xs
drop_among zero xs x m = m
drop_among (suc n) [] x m = m
drop_among (suc n) (y ∷ ys) x m = inr (drop_among n ys x m)

pub pairwise_drop : {A : Type 0} (R : A → A → Type 0) (n : ℕ) (xs : List A) → Pairwise R xs → Pairwise R (drop n xs)
pairwise_drop R zero xs p = p
pairwise_drop R (suc n) [] p = tt
pairwise_drop R (suc n) (y ∷ ys) p = pairwise_drop R n ys p.1

pub pairwise_kept : {A : Type 0} (R : A → A → Type 0) (q : A → Bool) (xs : List A) → Pairwise R xs → Pairwise R (filter q xs)
pairwise_kept R q [] p = tt
pairwise_kept R q (x ∷ xs) p = go (q x) (pairwise_kept R q xs p.1)
  where
    go : (b : Bool) → Pairwise R (filter q xs) → Pairwise R (cond b (x ∷ filter q xs) (filter q xs))
    go true ih = (all_kept_by q (R x) xs p.0, ih)
    go false ih = ih

pub pairwise_map : {A B : Type 0} (R : A → A → Type 0) (R' : B → B → Type 0) (f : A → B) → ((a b : A) → R a b → R' (f a) (f b)) → (xs : List A) → Pairwise R xs → Pairwise R' (map f xs)
pairwise_map R R' f h [] p = tt
pairwise_map R R' f h (x ∷ xs) p = (All-map (R' (f x)) f xs (All-weaker _ _ (λ y r. h x y r) xs p.0), pairwise_map R R' f h xs p.1)

pub all_among : {A : Type 0} (P : A → Type 0) (xs : List A) (x : A) → AllByRecursion P xs → x among xs → P x
all_among P [] x a m = absurd m
all_among P (y ∷ ys) x a (inl e) = rw e a.0
all_among P (y ∷ ys) x a (inr m) = all_among P ys x a.1 m

pub all_from : {A : Type 0} (P : A → Type 0) (xs : List A) → ((x : A) → x among xs → P x) → AllByRecursion P xs
all_from P [] f = tt
all_from P (x ∷ xs) f = (f x (inl refl), all_from P xs (λ y m. f y (inr m)))

-- lists in order with the same elements are the same
pub pairwise_same : {A : Type 0} (R : A → A → Type 0) → ((x y : A) → R x y → R y x → ⊥) → (xs ys : List A) → Pairwise R xs → Pairwise R ys → ((v : A) → v among xs → v among ys) → ((v : A) → v among ys → v among xs) → xs ≡ ys
pairwise_same R one_way [] [] p q f h = refl
pairwise_same R one_way [] (y ∷ ys) p q f h = absurd (h y (inl refl))
pairwise_same R one_way (x ∷ xs) [] p q f h = absurd (f x (inl refl))
pairwise_same R one_way (x ∷ xs) (y ∷ ys) p q f h = go (f x (inl refl)) (h y (inl refl)) (pairwise_same R one_way xs ys p.1 q.1)
  where
    tail : (a b : _) (cs bs : List _) → a ≡ b → AllByRecursion (R a) cs → ((v : _) → v among (a ∷ cs) → v among (b ∷ bs)) → (v : _) → v among cs → v among bs
    tail a b cs bs e al k v m = elim (k v (inr m)) [
      | inl s ↦ absurd (let self : R a a = subst (R a) (s ∙ sym e) (all_among (R a) cs v al m) in one_way a a self self)
      | inr n ↦ n
    ]

    same : x ≡ y → (((v : _) → v among xs → v among ys) → ((v : _) → v among ys → v among xs) → xs ≡ ys) → (x ∷ xs) ≡ (y ∷ ys)
    same e ih = let t : xs ≡ ys = ih (tail x y xs ys e p.0 f) (tail y x ys xs (sym e) q.0 h) in cc

    go : x among (y ∷ ys) → y among (x ∷ xs) → (((v : _) → v among xs → v among ys) → ((v : _) → v among ys → v among xs) → xs ≡ ys) → (x ∷ xs) ≡ (y ∷ ys)
    go (inl e) b ih = same e ih
    go (inr m) (inl e) ih = same (sym e) ih
    go (inr m) (inr n) ih = absurd (one_way x y (all_among (R x) xs y p.0 n) (all_among (R y) ys x q.0 m))

pub among_kept : {A : Type 0} (q : A → Bool) (xs : List A) (x : A) → x among xs → q x ≡ true → x among filter q xs
among_kept q [] x m h = absurd m
among_kept q (y ∷ ys) x m h = go (q y) refl m (λ n. among_kept q ys x n h)
  where
    go : (b : Bool) → q y ≡ b → (x ≡ y) ⊎ (x among ys) → (x among ys → x among filter q ys) → x among cond b (y ∷ filter q ys) (filter q ys)
    go true e (inl s) ih = inl s
    go true e (inr n) ih = inr (ih n)
    go false e (inl s) ih = absurd (both_ways (q y) e (rw s at h))
    go false e (inr n) ih = ih n

-- what is kept was there and passes
pub kept_among : {A : Type 0} (p : A → Bool) (xs : List A) (x : A) → x among filter p xs → (x among xs) × (p x ≡ true)
kept_among p [] x m = absurd m
kept_among p (y ∷ ys) x m = go (p y) refl m (kept_among p ys x)
  where
    go : (b : Bool) → p y ≡ b → x among cond b (y ∷ filter p ys) (filter p ys) → (x among filter p ys → (x among ys) × (p x ≡ true)) → (x among (y ∷ ys)) × (p x ≡ true)
    go true e (inl s) ih = (inl s, rw s e)
    go true e (inr n) ih = let (a, q) = ih n in (inr a, q)
    go false e n ih = let (a, q) = ih n in (inr a, q)

pub kept_all : {A : Type 0} (p : A → Bool) (xs : List A) → ((x : A) → x among xs → p x ≡ true) → filter p xs ≡ xs
kept_all p [] h = refl
kept_all p (x ∷ xs) h = rw (h x (inl refl)) (ap (λ ys. x ∷ ys) (kept_all p xs (λ y m. h y (inr m))))

pub kept_none : {A : Type 0} (p : A → Bool) (xs : List A) → ((x : A) → x among xs → p x ≡ false) → filter p xs ≡ []
kept_none p [] h = refl
kept_none p (x ∷ xs) h = rw (h x (inl refl)) (kept_none p xs (λ y m. h y (inr m)))

-- keeping after a map, and before it
pub kept_map : {A B : Type 0} (p : B → Bool) (f : A → B) (q : A → Bool) (xs : List A) → ((x : A) → x among xs → p (f x) ≡ q x) → filter p (map f xs) ≡ map f (filter q xs)
kept_map p f q [] h = refl
kept_map p f q (x ∷ xs) h = go (p (f x)) (q x) (h x (inl refl)) (kept_map p f q xs (λ y m. h y (inr m)))
  where
    go : (a b : Bool) → a ≡ b → filter p (map f xs) ≡ map f (filter q xs) → cond a (f x ∷ filter p (map f xs)) (filter p (map f xs)) ≡ map f (cond b (x ∷ filter q xs) (filter q xs))
    go true true e ih = ap (λ ys. f x ∷ ys) ih
    go false false e ih = ih
    go true false e ih = absurd (both_ways true e refl)
    go false true e ih = absurd (both_ways false refl e)

pub among_append : {A : Type 0} (xs ys : List A) (x : A) → x among (xs ++ ys) → (x among xs) ⊎ (x among ys)
among_append [] ys x m = inr m
among_append (y ∷ xs) ys x (inl e) = inl (inl e)
among_append (y ∷ xs) ys x (inr m) = elim (among_append xs ys x m) [ inl n ↦ inl (inr n) | inr n ↦ inr n ]

pub pairwise_append : {A : Type 0} (R : A → A → Type 0) (xs ys : List A) → Pairwise R xs → Pairwise R ys → ((x y : A) → x among xs → y among ys → R x y) → Pairwise R (xs ++ ys)
pairwise_append R [] ys p q h = q
pairwise_append R (x ∷ xs) ys p q h =
    (all_from (R x) (xs ++ ys) (λ y m. elim (among_append xs ys y m) [ inl n ↦ all_among (R x) xs y p.0 n | inr n ↦ h x y (inl refl) n ]), pairwise_append R xs ys p.1 q (λ a b m n. h a b (inr m) n))

pub among_map : {A B : Type 0} (f : A → B) (xs : List A) (x : A) → x among xs → f x among map f xs
among_map f [] x m = absurd m
among_map f (y ∷ ys) x (inl e) = inl (ap f e)
among_map f (y ∷ ys) x (inr m) = inr (among_map f ys x m)

pub map_among : {A B : Type 0} (f : A → B) (xs : List A) (y : B) → y among map f xs → (x : A) × (x among xs) × (y ≡ f x)
map_among f [] y m = absurd m
map_among f (x ∷ xs) y (inl e) = (x, inl refl, e)
map_among f (x ∷ xs) y (inr m) = let (z, n, e) = map_among f xs y m in (z, inr n, e)

pub map_same : {A B : Type 0} (f h : A → B) (xs : List A) → ((x : A) → x among xs → f x ≡ h x) → map f xs ≡ map h xs
map_same f h [] e = refl
map_same f h (x ∷ xs) e = let a : f x ≡ h x = e x (inl refl) in let b : map f xs ≡ map h xs = map_same f h xs (λ y m. e y (inr m)) in cc

all_both : {A : Type 0} (P Q : A → Type 0) (xs : List A) → AllByRecursion P xs → AllByRecursion Q xs → AllByRecursion (λ x. P x × Q x) xs
all_both P Q [] a b = tt
all_both P Q (x ∷ xs) a b = ((a.0, b.0), all_both P Q xs a.1 b.1)

pub any_of_lem : {A : Type 0} (p : A → Bool) (xs : List A) → (any_of p xs ≡ true → (x : A) × (x among xs) × (p x ≡ true)) × ((x : A) → x among xs → p x ≡ true → any_of p xs ≡ true)
unfolding any_of
any_of_lem p [] = ((λ h. absurd (both_ways false refl h)), (λ x m. absurd m))
any_of_lem p (y ∷ ys) = (
  (λ h. elim (or_cases (p y) (any_of p ys) h) [ inl e ↦ (y, inl refl, e) | inr n ↦ let (x, m, q) = (any_of_lem p ys).0 n in (x, inr m, q) ]),
  (λ x m q. elim m [ inl e ↦ or_left (p y) _ (rw e at q) | inr n ↦ or_right (p y) _ ((any_of_lem p ys).1 x n q) ]),
)

pub has_among : (v : ℕ) (xs : List ℕ) → (has v xs ≡ true → v among xs) × (v among xs → has v xs ≡ true)
has_among v xs = (
  (λ h. let (x, m, e) = (any_of_lem (eqb v) xs).0 h in subst (λ z. z among xs) (sym (eqb-true v x e)) m),
  (λ m. (any_of_lem (eqb v) xs).1 v m (eq-eqb v v refl)),
)

pub bit_cond : (b : Bool) → bit b ≡ cond b 1 0
bit_cond true = refl
bit_cond false = refl

pub count_by_list : (p q : Set) (n : ℕ) (vs : List ℕ) → Pairwise (λ v w. v ≢ w) vs → ((v : ℕ) → v < n → v ∈ q → v among vs) → AllByRecursion (λ v. (v < n) × (v ∈ q)) vs → count (λ v. q v && p v) n ≡ count_by p vs
unfolding without
count_by_list p q n [] d f a = count_none (λ v. q v && p v) n (λ v l m. f v l (and_parts (q v) (p v) m).0)
count_by_list p q n (x ∷ xs) d f a =
    let split : count (λ v. q v && p v) n ≡ bit (q x && p x) + count (λ v. (q v && p v) && not (eqb v x)) n = count_split (λ v. q v && p v) x n a.0.0 in
    let rest : count (λ v. (q v && p v) && not (eqb v x)) n ≡ count (λ v. without q x v && p v) n = count_same _ _ n (λ v _. swap v) in
    let more : count (λ v. without q x v && p v) n ≡ count_by p xs = count_by_list p (without q x) n xs d.1 left (All-weaker _ _ (λ v h. (h.1.0, without_in q x v h.1.1 (λ e. h.0 (sym e)))) xs (all_both _ _ xs d.0 a.1)) in
    omega (arith, split, rest, more, ap (λ b. bit (b && p x)) a.0.1, bit_cond (p x), sum_by-cons (λ v. cond (p v) 1 0) x xs)
  where
    turn : (a b c : Bool) → ((a && b) && c) ≡ ((a && c) && b)
    turn true true c = sym (and-true c)
    turn true false c = sym (and-false c)
    turn false b c = refl

    swap : (v : ℕ) → ((q v && p v) && not (eqb v x)) ≡ (without q x v && p v)
    swap v = turn (q v) (p v) (not (eqb v x))

    left : (v : ℕ) → v < n → v ∈ without q x → v among xs
    left v l m = let (h, e) = without_from q x v m in elim (f v l h) [ inl s ↦ absurd (e s) | inr r ↦ r ]
