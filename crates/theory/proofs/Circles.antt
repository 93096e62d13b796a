-- The circles are the components of cores, and the two forms of a circle agree where no two persons are level.
use Rattle.std.proofs.Common.{◌≡◌, ℕ, ◌<◌, ◌≤◌, true, subst, inl, inr, arith}
use Rattle.std.proofs.lemmas.Bool.{both_ways, cases_Bool}
use Rattle.theory.specs.CircleLaws.{CircleFormsAgree}
use Rattle.theory.specs.Circles.{Circle, Group, Level, LevelCircle, SameWeakest}
use Rattle.theory.specs.Cores.{above, circle_at, core}
use Rattle.theory.specs.Graphs.{Connected, Graph, Inside, Lawful, Tight}
use Rattle.theory.specs.Orders.{Order, Strict, Weakest}
use Rattle.theory.specs.Sets.{Larger, Relation, Set, ◌∈◌, ◌⊆◌}
use Rattle.theory.proofs.Components.{component_holds, component_part, component_takes, core_group}
use Rattle.theory.proofs.Cores.{core_greatest, core_part, core_within}
use Rattle.theory.proofs.Orders.{le_self, weakest_of}
use Rattle.theory.proofs.Sets.{same_set}

module _ (g : Graph) (o : Lawful g) (le : Relation) (t : Order le) where
  module _ (k w : ℕ) (c : w ∈ core g k (above le w)) where
    inner : w < g.size
    inner = core_within g k (above le w) w c

    pub at_group : Group g k (circle_at g le k w)
    unfolding circle_at
    at_group = core_group g o k (above le w) w c

    pub at_weakest : Weakest le (circle_at g le k w) w
    unfolding circle_at
    at_weakest = (component_holds g o (core g k (above le w)) w inner c, λ v m. core_part g k (above le w) v (component_part g o (core g k (above le w)) w inner c v m))

    -- every group that meets it and has nobody weaker lies in it
    pub at_takes : (S : Set) → Group g k S → ((v : ℕ) → v ∈ S → le w v ≡ true) → (u : ℕ) → u ∈ S → u ∈ circle_at g le k w → S ⊆ circle_at g le k w
    unfolding circle_at
    at_takes S gr weak u m n v s =
        component_takes g o (core g k (above le w)) w inner c S (core_greatest g k (above le w) S gr.inside weak gr.tight) n (gr.connected u v m s)

    pub at_circle : LevelCircle g le k (circle_at g le k w)
    at_circle =
        record {
          group = at_group;
          whole = λ S gr part lev.
              let (x, y, wx, wy, xy, yx) = lev in
              at_takes S gr (λ v m. t.chain w y v (t.chain w x y (at_weakest.1 x wx.0) xy) (wy.1 v m)) w (part w at_weakest.0) at_weakest.0;
        }

  -- a group lies in the core of those at least as strong as its weakest
  pub group_core : (k : ℕ) (S : Set) (w : ℕ) → Group g k S → Weakest le S w → S ⊆ core g k (above le w)
  group_core k S w gr weak = core_greatest g k (above le w) S gr.inside weak.1 gr.tight

  pub circle_is : (k : ℕ) (S : Set) (w : ℕ) → LevelCircle g le k S → Weakest le S w → (w ∈ core g k (above le w)) × (S ≡ circle_at g le k w)
  circle_is k S w ci weak =
      let c : w ∈ core g k (above le w) = group_core k S w ci.group weak w weak.0 in
      let part : S ⊆ circle_at g le k w = at_takes k w c S ci.group weak.1 w weak.0 (at_weakest k w c).0 in
      (c, same_set S (circle_at g le k w) part (ci.whole (circle_at g le k w) (at_group k w c) part (w, w, weak, at_weakest k w c, le_self le t w, le_self le t w)))

  pub circle_weakest : (k : ℕ) (S : Set) → Group g k S → (w : ℕ) × Weakest le S w
  circle_weakest k S gr = weakest_of le t S g.size gr.inside gr.someone.0 gr.someone.1

  pub meet : (k : ℕ) (S S' : Set) (w w' : ℕ) → LevelCircle g le k S → LevelCircle g le k S' → Weakest le S w → Weakest le S' w' → le w w' ≡ true → (v : ℕ) → v ∈ S → v ∈ S' → S' ⊆ S
  meet k S S' w w' c c' we we' h v m m' u n =
      let (p, e) = circle_is k S w c we in
      rw e (at_takes k w p S' c'.group (λ x s. t.chain w w' x h (we'.1 x s)) v m' (rw e at m) u n)

pub group_less : {g : Graph} {S : Set} (k k' : ℕ) → k ≤ k' → Group g k' S → Group g k S
group_less k k' h gr = record { inside = gr.inside; someone = gr.someone; connected = gr.connected; tight = λ u m. omega (arith, gr.tight u m) }

pub group_of : {g : Graph} {le : Relation} {k : ℕ} {S : Set} → Circle g le k S → Group g k S
group_of c = record { inside = c.inside; someone = c.someone; connected = c.connected; tight = c.tight }

pub to_level : (g : Graph) (le : Relation) → Strict le → (k : ℕ) (S : Set) → Circle g le k S → LevelCircle g le k S
to_level g le str k S c = record { group = group_of c; whole = take_in }
  where
    take_in : (S' : Set) → Group g k S' → S ⊆ S' → Level le S S' → S' ⊆ S
    take_in S' gr part (x, y, wx, wy, xy, yx) v m = elim (cases_Bool (S v)) [
      | inl h ↦ h
      | inr f ↦ absurd (c.whole S' gr.inside (part, (v, m, f)) gr.connected gr.tight (x, wx, subst (Weakest le S') (str y x yx xy) wy))
    ]

pub from_level : (g : Graph) (le : Relation) → Order le → (k : ℕ) (S : Set) → LevelCircle g le k S → Circle g le k S
from_level g le t k S c =
    record { inside = c.group.inside; someone = c.group.someone; connected = c.group.connected; tight = c.group.tight; whole = shut_out }
  where
    shut_out : (S' : Set) → Inside g S' → Larger S S' → Connected g S' → Tight g k S' → SameWeakest le S S' → ⊥
    shut_out S' ins (part, more) con ti (w, we, we') =
        let (v, m, f) = more in
        let gr : Group g k S' = record { inside = ins; someone = (w, we'.0); connected = con; tight = ti } in
        both_ways (S v) f (c.whole S' gr part (w, w, we, we', le_self le t w, le_self le t w) v m)

pub circle_forms_agree : CircleFormsAgree
circle_forms_agree g le t str k S = (to_level g le str k S, from_level g le t k S)

module _ (g : Graph) (o : Lawful g) (le : Relation) (t : Order le) (str : Strict le) (k : ℕ) where
  pub circle_made : (w : ℕ) → w ∈ core g k (above le w) → Circle g le k (circle_at g le k w)
  circle_made w c = from_level g le t k (circle_at g le k w) (at_circle g o le t k w c)

  pub circle_known : (S : Set) (w : ℕ) → Circle g le k S → Weakest le S w → (w ∈ core g k (above le w)) × (S ≡ circle_at g le k w)
  circle_known S w c we = circle_is g o le t k S w (to_level g le str k S c) we
