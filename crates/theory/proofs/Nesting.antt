-- Circles as components, apart or nested, nested by k, in both forms.
use Rattle.std.proofs.Common.{◌≡◌, ℕ, true, false, ◌&&◌, ◌⊎◌, inl, inr}
use Rattle.std.proofs.lemmas.Bool.{and_from, and_parts, both_ways, cases_Bool}
use Rattle.theory.specs.CircleLaws.{ApartOrNested, CirclesAreComponents, NestedByK}
use Rattle.theory.specs.Circles.{Circle, Group, LevelCircle}
use Rattle.theory.specs.Cores.{above, circle_at, core}
use Rattle.theory.specs.Orders.{Order, StrictOrder, Weakest}
use Rattle.theory.specs.Sets.{any, Apart, ◌∈◌, ◌⊆◌}
use Rattle.theory.proofs.Circles.{at_circle, at_takes, at_weakest, circle_is, circle_known, circle_made, circle_weakest, from_level, group_core, group_less, group_of, meet, to_level}
use Rattle.theory.proofs.Counting.{any_tells}

pub level_components : CirclesAreComponents LevelCircle Order
level_components g o le t k = ((λ w c. (at_circle g o le t k w c, at_weakest g o le t k w c)), circle_is g o le t k, (λ S c. circle_weakest g o le t k S c.group))

pub circles_are_components : CirclesAreComponents Circle StrictOrder
circles_are_components g o le (t, str) k =
    ((λ w c. (circle_made g o le t str k w c, at_weakest g o le t k w c)), circle_known g o le t str k, (λ S c. circle_weakest g o le t k S (group_of c)))

pub level_apart_or_nested : ApartOrNested LevelCircle Order
level_apart_or_nested g o le t k S S' c c' = go (cases_Bool (any (λ v. S v && S' v) g.size)) (circle_weakest g o le t k S c.group) (circle_weakest g o le t k S' c'.group)
  where
    go : (any (λ v. S v && S' v) g.size ≡ true) ⊎ (any (λ v. S v && S' v) g.size ≡ false) → (w : ℕ) × Weakest le S w → (w : ℕ) × Weakest le S' w → Apart S S' ⊎ ((S ⊆ S') ⊎ (S' ⊆ S))
    go (inl a) (w, we) (w', we') =
        let (v, l, b) = (any_tells (λ v. S v && S' v) g.size).0 a in
        let (m, m') = and_parts (S v) (S' v) b in
        elim (t.total w w') [
          | inl h ↦ inr (inr (meet g o le t k S S' w w' c c' we we' h v m m'))
          | inr h ↦ inr (inl (meet g o le t k S' S w' w c' c we' we h v m' m))
        ]
    go (inr a) x y = inl (λ v m m'. both_ways _ a ((any_tells (λ v. S v && S' v) g.size).1 (v, c.group.inside v m, and_from (S v) (S' v) m m')))

pub apart_or_nested : ApartOrNested Circle StrictOrder
apart_or_nested g o le (t, str) k S S' c c' = level_apart_or_nested g o le t k S S' (to_level g le str k S c) (to_level g le str k S' c')

pub level_nested_by_k : NestedByK LevelCircle Order
level_nested_by_k g o le t k k' h S w c we =
    let gr : Group g k S = group_less k k' h c.group in
    let p : w ∈ core g k (above le w) = group_core g o le t k S w gr we w we.0 in
    (at_circle g o le t k w p, at_weakest g o le t k w p, at_takes g o le t k w p S gr we.1 w we.0 (at_weakest g o le t k w p).0)

pub nested_by_k : NestedByK Circle StrictOrder
nested_by_k g o le (t, str) k k' h S w c we =
    let (a, b, p) = level_nested_by_k g o le t k k' h S w (to_level g le str k' S c) we in
    (from_level g le t k (circle_at g le k w) a, b, p)
