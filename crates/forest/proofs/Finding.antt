-- Union-find over rounds: finding, short cuts, joining.
use Rattle.std.proofs.Common.{◌≡◌, ℕ, zero, suc, ◌<◌, ◌≤◌, Bool, true, false, cond, ◌||◌, eqb, ◌≢◌, ◌⊎◌, sym, refl, ap, ◌∙◌, inl, inr, arith}
use Rattle.std.proofs.lemmas.Bool.{cases_eq, eq-eqb, ne_eqb, or_from, or_left}
use Rattle.theory.specs.Sets.{Set, times}
use Rattle.theory.proofs.Iterating.{times_still}
use Rattle.forest.specs.Holders.{there}
use Rattle.forest.specs.Joining.{Finds, more, put, rejoined, Rooted}
use Rattle.forest.specs.JoiningLaws.{FindingEndsAtRoot}
use Rattle.forest.proofs.Joining.{roots_end_holders}

put_at : (f : ℕ → ℕ) (a v x : ℕ) → x ≡ a → put f a v x ≡ v
unfolding put
put_at f a v x e = ap (λ b. cond b v (f x)) (eq-eqb x a e)

put_off : (f : ℕ → ℕ) (a v x : ℕ) → x ≢ a → put f a v x ≡ f x
unfolding put
put_off f a v x d = ap (λ b. cond b v (f x)) (ne_eqb x a d)

find : (j m : ℕ) (root up : ℕ → ℕ) → Finds j m root up → (n a : ℕ) → j ≤ a → a < m → a ≤ n → times n up a ≡ root a
unfolding times
find j m root up f zero a l h s = let (x, y) = f.low a l h in let e : up a ≡ a = omega arith in sym (f.ends a l h e)
find j m root up f (suc n) a l h s = go (cases_eq (up a) a) (find j m root up f n (up a))
  where
    go : (up a ≡ a) ⊎ (up a ≡ a → ⊥) → (j ≤ up a → up a < m → up a ≤ n → times n up (up a) ≡ root (up a)) → times n up (up a) ≡ root a
    go (inl e) ih = times_still up (suc n) a e ∙ sym (f.ends a l h e)
    go (inr d) ih = let (x, y) = f.low a l h in ih x (omega arith) (omega arith) ∙ f.same a l h

shorten : (j m : ℕ) (root up : ℕ → ℕ) → Rooted j m root → Finds j m root up → (a : ℕ) → j ≤ a → a < m → Finds j m root (put up a (root a))
shorten j m root up ro f a l h = record { low = λ x p q. low x p q (cases_eq x a); same = λ x p q. same x p q (cases_eq x a); ends = λ x p q e. ends x p q e (cases_eq x a) }
  where
    low : (x : ℕ) → j ≤ x → x < m → (x ≡ a) ⊎ (x ≡ a → ⊥) → (j ≤ put up a (root a) x) × (put up a (root a) x ≤ x)
    low x p q (inl e) = let z = put_at up a (root a) x e in let r = ro a l h in (omega (arith, z, r.0), omega (arith, z, r.1))
    low x p q (inr d) = let z = put_off up a (root a) x d in let r = f.low x p q in (omega (arith, z, r.0), omega (arith, z, r.1))

    same : (x : ℕ) → j ≤ x → x < m → (x ≡ a) ⊎ (x ≡ a → ⊥) → root (put up a (root a) x) ≡ root x
    same x p q (inl e) = ap root (put_at up a (root a) x e) ∙ (ro a l h).2 ∙ ap root (sym e)
    same x p q (inr d) = ap root (put_off up a (root a) x d) ∙ f.same x p q

    ends : (x : ℕ) → j ≤ x → x < m → put up a (root a) x ≡ x → (x ≡ a) ⊎ (x ≡ a → ⊥) → root x ≡ x
    ends x p q e (inl s) = ap root s ∙ sym (put_at up a (root a) x s) ∙ e
    ends x p q e (inr d) = f.ends x p q (sym (put_off up a (root a) x d) ∙ e)

rejoined_first : (j : ℕ) (T : Set) (root : ℕ → ℕ) → rejoined j T root j ≡ j
unfolding rejoined
rejoined_first j T root = ap (λ b. cond b j (root j)) (or_left _ _ (eq-eqb j j refl))

rejoined_free : (j : ℕ) (T : Set) (root : ℕ → ℕ) (a : ℕ) → a ≢ j → T (root a) ≡ false → rejoined j T root a ≡ root a
unfolding rejoined
rejoined_free j T root a d f = ap (λ b. cond b j (root a)) (or_from _ _ (ne_eqb a j d) f)

begin : (j m : ℕ) (root up : ℕ → ℕ) → Finds (suc j) m root up → Finds j m (rejoined j (λ _. false) root) (put up j j)
begin j m root up f = record { low = λ x p q. low x p q (cases_eq x j); same = λ x p q. same x p q (cases_eq x j); ends = λ x p q e. ends x p q e (cases_eq x j) }
  where
    R : ℕ → ℕ
    R = rejoined j (λ _. false) root

    low : (x : ℕ) → j ≤ x → x < m → (x ≡ j) ⊎ (x ≡ j → ⊥) → (j ≤ put up j j x) × (put up j j x ≤ x)
    low x p q (inl e) = let z = put_at up j j x e in (omega (arith, z), omega (arith, z))
    low x p q (inr d) = let z = put_off up j j x d in let r = f.low x (omega arith) q in (omega (arith, z, r.0), omega (arith, z, r.1))

    same : (x : ℕ) → j ≤ x → x < m → (x ≡ j) ⊎ (x ≡ j → ⊥) → R (put up j j x) ≡ R x
    same x p q (inl e) = ap R (put_at up j j x e ∙ sym e)
    same x p q (inr d) =
        let r = f.low x (omega arith) q in
        let d' : up x ≢ j = λ e. omega (arith, r.0) in
        ap R (put_off up j j x d) ∙ rejoined_free j (λ _. false) root (up x) d' refl ∙ f.same x (omega arith) q ∙ sym (rejoined_free j (λ _. false) root x d refl)

    ends : (x : ℕ) → j ≤ x → x < m → put up j j x ≡ x → (x ≡ j) ⊎ (x ≡ j → ⊥) → R x ≡ x
    ends x p q e (inl s) = ap R s ∙ rejoined_first j (λ _. false) root ∙ sym s
    ends x p q e (inr d) = rejoined_free j (λ _. false) root x d refl ∙ f.ends x (omega arith) q (sym (put_off up j j x d) ∙ e)

-- with b in T, the root b becomes j and no other root moves
turned : (j : ℕ) (T : Set) (root : ℕ → ℕ) (b a : ℕ) → j < b → rejoined j (more T b) root a ≡ put (λ x. x) b j (rejoined j T root a)
unfolding rejoined more put
turned j T root b a l = go (eqb a j) (T (root a)) (eqb (root a) b) refl
  where
    no_j : eqb j b ≡ false
    no_j = ne_eqb j b (λ e. omega arith)

    go : (x y z : Bool) → eqb (root a) b ≡ z → cond (x || (y || z)) j (root a) ≡ cond (eqb (cond (x || y) j (root a)) b) j (cond (x || y) j (root a))
    go true y z e = rw no_j refl
    go false true z e = rw no_j refl
    go false false true e = rw e refl
    go false false false e = rw e refl

join : (j m : ℕ) (root up : ℕ → ℕ) (T : Set) (b : ℕ) → Finds j m (rejoined j T root) up → j < b → root b ≡ b → T b ≡ false → Finds j m (rejoined j (more T b) root) (put up b j)
join j m root up T b f lb rb tb = record { low = λ x p q. low x p q (cases_eq x b); same = λ x p q. same x p q (cases_eq x b); ends = λ x p q e. ends x p q e (cases_eq x b) }
  where
    R : ℕ → ℕ
    R = rejoined j T root

    R' : ℕ → ℕ
    R' = rejoined j (more T b) root

    step : (x : ℕ) → R' x ≡ put (λ x. x) b j (R x)
    step x = turned j T root b x lb

    at_b : R b ≡ b
    at_b = rejoined_free j T root b (λ e. omega arith) (ap T rb ∙ tb) ∙ rb

    low : (x : ℕ) → j ≤ x → x < m → (x ≡ b) ⊎ (x ≡ b → ⊥) → (j ≤ put up b j x) × (put up b j x ≤ x)
    low x p q (inl e) = let z = put_at up b j x e in (omega (arith, z), omega (arith, z))
    low x p q (inr d) = let z = put_off up b j x d in let r = f.low x p q in (omega (arith, z, r.0), omega (arith, z, r.1))

    same : (x : ℕ) → j ≤ x → x < m → (x ≡ b) ⊎ (x ≡ b → ⊥) → R' (put up b j x) ≡ R' x
    same x p q (inl e) = ap R' (put_at up b j x e) ∙ rejoined_first j (more T b) root ∙ sym (put_at (λ x. x) b j (R b) at_b) ∙ sym (step b) ∙ ap R' (sym e)
    same x p q (inr d) = ap R' (put_off up b j x d) ∙ step (up x) ∙ ap (put (λ x. x) b j) (f.same x p q) ∙ sym (step x)

    ends : (x : ℕ) → j ≤ x → x < m → put up b j x ≡ x → (x ≡ b) ⊎ (x ≡ b → ⊥) → R' x ≡ x
    ends x p q e (inl s) = let z : j ≡ b = sym (put_at up b j x s) ∙ e ∙ s in absurd (omega arith)
    ends x p q e (inr d) =
        let r : R x ≡ x = f.ends x p q (sym (put_off up b j x d) ∙ e) in
        step x ∙ ap (put (λ x. x) b j) r ∙ put_off (λ x. x) b j x d

pub finding_ends_at_root : FindingEndsAtRoot
finding_ends_at_root = (
  (λ j m root up ro f. ((λ a n l h s. find j m root up f n a l h s), shorten j m root up ro f)),
  begin,
  join,
  (λ g o le t str k j root ro a l h.
      let (lo, hi) = ro.between a l h in
      let rs = roots_end_holders g o le t str k j root ro in
      (lo, hi, rs.1 (root a) (root a) lo (omega arith) lo there (rs.0 a l h).1)),
)
