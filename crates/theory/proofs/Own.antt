-- Who is dropped is in no circle that the circle holds, and when that is everybody.
use Rattle.std.proofs.Common.{◌≡◌, ℕ, ◌<◌, true, false, not, ◌&&◌, ◌⊎◌, inl, inr}
use Rattle.std.proofs.lemmas.Bool.{and_from, and_parts, both_ways, cases_Bool, not_from_false, not-true}
use Rattle.theory.specs.Circles.{Circle, Group, Innermost, LevelCircle, Own}
use Rattle.theory.specs.Cores.{above, circle_at, component, core}
use Rattle.theory.specs.Graphs.{Graph, Lawful}
use Rattle.theory.specs.Orders.{Order, Strict, Weakest}
use Rattle.theory.specs.Peeling.{dropped}
use Rattle.theory.specs.PeelingLaws.{DroppedAreOwn, InnermostDropsAll, InnermostIsTested}
use Rattle.theory.specs.Sets.{minus, Relation, Set, without, ◌∈◌, ◌⊆◌}
use Rattle.theory.proofs.Circles.{at_circle, at_group, at_takes, at_weakest, circle_is, circle_known, circle_made, circle_weakest, group_core}
use Rattle.theory.proofs.Components.{component_holds, component_part, core_group}
use Rattle.theory.proofs.Cores.{core_greatest, core_part, core_within}
use Rattle.theory.proofs.Orders.{weakest_of}
use Rattle.theory.proofs.Sets.{false_since, minus_from, minus_in, same_set, without_from, without_in}

module _ (g : Graph) (o : Lawful g) (le : Relation) (t : Order le) (str : Strict le) (k : ℕ) (S : Set) (w : ℕ) (c : Circle g le k S) (we : Weakest le S w) where
  abbrev K : Set
  K = core g k (without S w)

  is : (w ∈ core g k (above le w)) × (S ≡ circle_at g le k w)
  is = circle_known g o le t str k S w c we

  -- another circle inside lacks w
  lacks : (S' : Set) → Circle g le k S' → S' ⊆ S → w ∈ S' → S ⊆ S'
  lacks S' c' p m = let e : S' ≡ circle_at g le k w = (circle_known g o le t str k S' w c' (m, λ v n. we.1 v (p v n))).1 in λ v n. rw e (rw is.1 at n)

  own : (v : ℕ) → v ∈ minus S K → Own (Circle g le k) S v
  own v m = (
    (minus_from S K v m).0,
    λ S' c' p n. elim (cases_Bool (S' w)) [
      | inl a ↦ lacks S' c' p a
      | inr f ↦ absurd (both_ways (K v) (minus_from S K v m).1 (core_greatest g k (without S w) S' c'.inside (λ u s. without_in S w u (p u s) (λ e. both_ways (S' w) f (rw e at s))) c'.tight v n))
    ],
  )

  back : (v : ℕ) → Own (Circle g le k) S v → v ∈ minus S K
  back v (m, all) = minus_in S K v m (false_since (K v) bad)
    where
      bad : v ∈ K → ⊥
      bad n = go (circle_weakest g o le t k E gr)
        where
          E : Set
          E = component g K v

          gr : Group g k E
          gr = core_group g o k (without S w) v n

          l : v < g.size
          l = core_within g k (without S w) v n

          go : (y : ℕ) × Weakest le E y → ⊥
          go (y, wy) =
              let (s, d) = without_from S w y (core_part g k (without S w) y (component_part g o K v l n y wy.0)) in
              let cy : y ∈ core g k (above le y) = group_core g o le t k E y gr wy y wy.0 in
              let sub : circle_at g le k y ⊆ circle_at g le k w = at_takes g o le t k w is.0 (circle_at g le k y) (at_group g o le t k y cy) (λ u p. t.chain w y u (we.1 y s) ((at_weakest g o le t k y cy).1 u p)) y (at_weakest g o le t k y cy).0 (rw is.1 at s) in
              let hv : v ∈ circle_at g le k y = at_takes g o le t k y cy E gr wy.1 y wy.0 (at_weakest g o le t k y cy).0 v (component_holds g o K v l n) in
              let hw : w ∈ circle_at g le k y = all (circle_at g le k y) (circle_made g o le t str k y cy) (λ u p. rw is.1 (sub u p)) hv w we.0 in
              d (str y w ((at_weakest g o le t k y cy).1 w hw) (we.1 y s))

  all_own : minus S K ≡ S → Innermost (Circle g le k) S
  all_own e S' c' p = let (v, n) = c'.someone in (own v (rw e (p v n))).1 S' c' p n

pub dropped_are_own : DroppedAreOwn
unfolding dropped
dropped_are_own g o le t str k S w c we = (own g o le t str k S w c we, back g o le t str k S w c we)

pub innermost_drops_all : InnermostDropsAll
unfolding dropped
innermost_drops_all g o le t str k S w c we = (
  (λ inner. same_set _ _ (λ v m. (minus_from S _ v m).0) (λ v m. back g o le t str k S w c we v (m, λ S' c' p n. inner S' c' p))),
  all_own g o le t str k S w c we,
)

pub innermost_is_tested : InnermostIsTested
innermost_is_tested g o le t k S w c we = (there, back)
  where
    rest : Set
    rest u = S u && not (le u w)

    is : (w ∈ core g k (above le w)) × (S ≡ circle_at g le k w)
    is = circle_is g o le t k S w c we

    there : Innermost (LevelCircle g le k) S → (v : ℕ) → v ∈ core g k rest → ⊥
    there inner v m = go (weakest_of le t E g.size gr.inside v (component_holds g o D v l m))
      where
        D : Set
        D = core g k rest

        l : v < g.size
        l = core_within g k rest v m

        E : Set
        E = component g D v

        gr : Group g k E
        gr = core_group g o k rest v m

        go : (x : ℕ) × Weakest le E x → ⊥
        go (x, wx) =
            let (s, n) = and_parts (S x) _ (core_part g k rest x (component_part g o D v l m x wx.0)) in
            let cx : x ∈ core g k (above le x) = group_core g o le t k E x gr wx x wx.0 in
            let part : circle_at g le k x ⊆ circle_at g le k w = at_takes g o le t k w is.0 (circle_at g le k x) (at_group g o le t k x cx) (λ u p. t.chain w x u (we.1 x s) ((at_weakest g o le t k x cx).1 u p)) x (at_weakest g o le t k x cx).0 (rw is.1 at s) in
            let back : w ∈ circle_at g le k x = inner (circle_at g le k x) (at_circle g o le t k x cx) (λ u p. rw is.1 (part u p)) w we.0 in
            both_ways (le x w) (not-true (le x w) n) ((at_weakest g o le t k x cx).1 w back)

    back : ((v : ℕ) → v ∈ core g k rest → ⊥) → Innermost (LevelCircle g le k) S
    back none S' c' part = go (circle_weakest g o le t k S' c'.group)
      where
        go : (x : ℕ) × Weakest le S' x → S ⊆ S'
        go (x, wx) = next (cases_Bool (le x w))
          where
            next : (le x w ≡ true) ⊎ (le x w ≡ false) → S ⊆ S'
            next (inl h) = c'.whole S c.group part (x, w, wx, we, h, we.1 x (part x wx.0))
            next (inr h) =
                absurd (none x (core_greatest g k rest S' c'.group.inside (λ u m. and_from (S u) _ (part u m) (not_from_false (le u w) (false_since (le u w) (λ p. both_ways (le x w) h (t.chain x u w (wx.1 u m) p))))) c'.group.tight x wx.0))
