-- The tests of the listing: which persons name a circle, and a chosen one.
use Rattle.std.proofs.Common.{◌≡◌, ℕ, Bool, true, false, not, ◌&&◌, eqb, ◌≢◌, ◌⊎◌, Decides, sym, refl, inl, inr}
use Rattle.std.proofs.lemmas.Bool.{and_from, and_parts, both_ways, cases_eq, eqb-false, ne_eqb, not_from_false, not-true}
use Rattle.theory.specs.Circles.{Innermost, LevelCircle}
use Rattle.theory.specs.Cores.{above, circle_at, core}
use Rattle.theory.specs.Graphs.{Graph, Lawful}
use Rattle.theory.specs.Listing.{Choice, every, innermost, is_chosen, is_name, Wanted}
use Rattle.theory.specs.Orders.{Named, Order, Ranking}
use Rattle.theory.specs.Sets.{any, Relation, Set, ◌∈◌, ◌⊆◌}
use Rattle.theory.proofs.Circles.{at_circle, at_group, at_takes, at_weakest, circle_is}
use Rattle.theory.proofs.Counting.{any_tells}
use Rattle.theory.proofs.Ranked.{never}
use Rattle.theory.proofs.Rankings.{name_of, named_weakest}

module _ (g : Graph) (o : Lawful g) (le : Relation) (t : Order le) (wk : Relation) (rk : Ranking le wk) where
  module _ (k : ℕ) where
    pub name_from : (w : ℕ) → is_name g le wk k w ≡ true → (w ∈ core g k (above le w)) × Named wk (circle_at g le k w) w
    unfolding is_name
    name_from w h = (parts.0, ((at_weakest g o le t k w parts.0).0, go))
      where
        parts : (core g k (above le w) w ≡ true) × (not (any (λ v. circle_at g le k w v && wk v w) g.size) ≡ true)
        parts = and_parts _ _ h

        go : (v : ℕ) → v ∈ circle_at g le k w → v ≢ w → wk w v ≡ true
        go v m d = elim (rk.either w v (λ e. d (sym e))) [
          | inl p ↦ p
          | inr p ↦ absurd (both_ways _ (not-true _ parts.1) ((any_tells (λ v. circle_at g le k w v && wk v w) g.size).1 (v, (at_group g o le t k w parts.0).inside v m, and_from (circle_at g le k w v) (wk v w) m p)))
        ]

    pub name_circle : (w : ℕ) → is_name g le wk k w ≡ true → LevelCircle g le k (circle_at g le k w)
    name_circle w h = at_circle g o le t k w (name_from w h).0

    pub name_in : (S : Set) (w : ℕ) → LevelCircle g le k S → Named wk S w → (is_name g le wk k w ≡ true) × (S ≡ circle_at g le k w)
    unfolding is_name
    name_in S w c n = (and_from _ _ is.0 (not_from_false _ (go (any (λ v. circle_at g le k w v && wk v w) g.size) refl)), is.1)
      where
        is : (w ∈ core g k (above le w)) × (S ≡ circle_at g le k w)
        is = circle_is g o le t k S w c (named_weakest wk rk t S w n)

        go : (b : Bool) → any (λ v. circle_at g le k w v && wk v w) g.size ≡ b → any (λ v. circle_at g le k w v && wk v w) g.size ≡ false
        go false e = e
        go true e =
            let (v, l, h) = (any_tells (λ v. circle_at g le k w v && wk v w) g.size).0 e in
            let (m, t) = and_parts (circle_at g le k w v) (wk v w) h in
            let d : v ≢ w = λ s. never wk rk w (rw s at t) in
            absurd (both_ways (wk w v) (rk.one_way v w t) (n.1 v (rw is.1 m) d))

    pub chosen_tells : (ch : Choice) (w : ℕ) → Decides (is_chosen g le wk k ch w) (Wanted g le wk k ch w)
    unfolding is_chosen
    chosen_tells every w = ((λ h. (circle_at g le k w, name_circle w h, (name_from w h).1)), (λ x. let (S, c, n) = x in (name_in S w c n).0))
    chosen_tells innermost w = (there, back)
      where
        other : Set
        other v = circle_at g le k w v && (is_name g le wk k v && not (eqb v w))

        there : (is_name g le wk k w && not (any other g.size)) ≡ true → Wanted g le wk k innermost w
        there h = (circle_at g le k w, (name_circle w (and_parts _ _ h).0, inner), (name_from w (and_parts _ _ h).0).1)
          where
            inner : Innermost (LevelCircle g le k) (circle_at g le k w)
            inner S c part = go (name_of wk rk S g.size c.group.inside c.group.someone.0 c.group.someone.1)
              where
                go : (x : ℕ) × Named wk S x → circle_at g le k w ⊆ S
                go (x, n) = next (cases_eq x w)
                  where
                    next : (x ≡ w) ⊎ (x ≡ w → ⊥) → circle_at g le k w ⊆ S
                    next (inl e) v m = rw ((name_in S x c n).1, e) m
                    next (inr d) v m =
                        absurd (both_ways (any other g.size) (not-true _ (and_parts _ _ h).1) ((any_tells other g.size).1 (x, c.group.inside x n.0, and_from _ _ (part x n.0) (and_from _ _ (name_in S x c n).0 (not_from_false (eqb x w) (ne_eqb x w d))))))

        back : Wanted g le wk k innermost w → (is_name g le wk k w && not (any other g.size)) ≡ true
        back (S, c, n) = and_from _ _ is.0 (not_from_false _ (go (any other g.size) refl))
          where
            is : (is_name g le wk k w ≡ true) × (S ≡ circle_at g le k w)
            is = name_in S w c.0 n

            go : (b : Bool) → any other g.size ≡ b → any other g.size ≡ false
            go false e = e
            go true e =
                let (v, l, h) = (any_tells other g.size).0 e in
                let (m, p) = and_parts (circle_at g le k w v) _ h in
                let (nv, d) = and_parts (is_name g le wk k v) _ p in
                let cv : v ∈ core g k (above le v) = (name_from v nv).0 in
                let cw : w ∈ core g k (above le w) = (name_from w is.0).0 in
                let lower : le w v ≡ true = (at_weakest g o le t k w cw).1 v m in
                let part : circle_at g le k v ⊆ circle_at g le k w = at_takes g o le t k w cw (circle_at g le k v) (at_group g o le t k v cv) (λ u s. t.chain w v u lower ((at_weakest g o le t k v cv).1 u s)) v (at_weakest g o le t k v cv).0 m in
                let inv : w ∈ circle_at g le k v = c.1 (circle_at g le k v) (name_circle v nv) (λ u s. rw is.1 (part u s)) w n.0 in
                let apart : v ≢ w = eqb-false v w (not-true (eqb v w) d) in
                absurd (both_ways (wk w v) (rk.one_way v w ((name_from v nv).1.1 w inv (λ s. apart (sym s)))) ((name_from w is.0).1.1 v m apart))
