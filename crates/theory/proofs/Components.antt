-- The component of w in X is connected, holds each connected part of X with w, and is tight where X is.
use Rattle.std.proofs.Common.{◌≡◌, ℕ, ◌-◌, ◌<◌, true, ◌&&◌, ◌||◌, eqb, ◌⊎◌, refl, inl, inr, arith}
use Rattle.std.proofs.lemmas.Bool.{and_from, and_parts, eq-eqb, eqb-true, or_cases, or_left, or_right}
use Rattle.theory.specs.Circles.{Group}
use Rattle.theory.specs.CoreLaws.{ComponentIsGreatest}
use Rattle.theory.specs.Cores.{component, core, spread}
use Rattle.theory.specs.Graphs.{Connected, Graph, here, Inside, Lawful, step, Tight, Walk}
use Rattle.theory.specs.Sets.{any, below, count, Set, ◌∈◌, ◌⊆◌}
use Rattle.theory.proofs.Cores.{core_tight, core_within, degree_mono}
use Rattle.theory.proofs.Counting.{any_tells, count_le, same_or_less}
use Rattle.theory.proofs.Iterating.{times_keeps, times_rest}
use Rattle.theory.proofs.Sets.{below_from, below_in, below_within, same_set}
use Rattle.theory.proofs.Walks.{linked_within, walk_back, walk_closed, walk_join, walk_mono}

record Spreading (g : Graph) (X : Set) (w : ℕ) (C : Set) : Type 0 where
  inside : Inside g C
  part : C ⊆ X
  walks : (v : ℕ) → v ∈ C → Walk g C w v

spread_holds : (g : Graph) (X C : Set) → Inside g C → C ⊆ X → C ⊆ spread g X C
unfolding spread
spread_holds g X C i p v m = below_in g.size _ v (i v m) (and_from (X v) _ (p v m) (or_left (C v) _ m))

spread_takes : (g : Graph) → Lawful g → (X C : Set) (u v : ℕ) → u ∈ C → g.linked u v ≡ true → v ∈ X → v ∈ spread g X C
unfolding spread
spread_takes g o X C u v m l x =
    below_in g.size _ v (linked_within g o u v l)
    (and_from (X v) _ x (or_right (C v) _ ((any_tells (λ y. C y && g.linked y v) g.size).1 (u, o.within u v l, and_from (C u) (g.linked u v) m l))))

spread_from : (g : Graph) (X C : Set) (v : ℕ) → v ∈ spread g X C → (v ∈ X) × ((v ∈ C) ⊎ ((u : ℕ) × (u ∈ C) × (g.linked u v ≡ true)))
unfolding spread
spread_from g X C v m = (parts.0, go (or_cases (C v) _ parts.1))
  where
    parts : (X v ≡ true) × ((C v || any (λ u. C u && g.linked u v) g.size) ≡ true)
    parts = and_parts (X v) _ (below_from g.size _ v m)

    go : (C v ≡ true) ⊎ (any (λ u. C u && g.linked u v) g.size ≡ true) → (v ∈ C) ⊎ ((u : ℕ) × (u ∈ C) × (g.linked u v ≡ true))
    go (inl c) = inl c
    go (inr a) =
        let (u, l, b) = (any_tells (λ u. C u && g.linked u v) g.size).0 a in
        let (c, d) = and_parts (C u) (g.linked u v) b in
        inr (u, c, d)

spread_within : (g : Graph) (X C : Set) → Inside g (spread g X C)
unfolding spread
spread_within g X C = below_within g.size _

spread_keeps : (g : Graph) → Lawful g → (X : Set) (w : ℕ) (C : Set) → Spreading g X w C → Spreading g X w (spread g X C)
spread_keeps g o X w C s =
    record { inside = spread_within g X C; part = λ v m. (spread_from g X C v m).0; walks = λ v m. go v m (spread_from g X C v m).1 }
  where
    grown : C ⊆ spread g X C
    grown = spread_holds g X C s.inside s.part

    go : (v : ℕ) → v ∈ spread g X C → (v ∈ C) ⊎ ((u : ℕ) × (u ∈ C) × (g.linked u v ≡ true)) → Walk g (spread g X C) w v
    go v m (inl c) = walk_mono grown (s.walks v c)
    go v m (inr (u, c, l)) = walk_join (walk_mono grown (s.walks u c)) (step (grown u c) l (here m))

spread_grows : (g : Graph) (X : Set) (w : ℕ) (C : Set) → Spreading g X w C → (spread g X C ≡ C) ⊎ (g.size - count (spread g X C) g.size < g.size - count C g.size)
spread_grows g X w C s = go (same_or_less C (spread g X C) g.size (λ v _. grown v))
  where
    grown : C ⊆ spread g X C
    grown = spread_holds g X C s.inside s.part

    go : ((v : ℕ) → v < g.size → v ∈ spread g X C → v ∈ C) ⊎ (count C g.size < count (spread g X C) g.size) → (spread g X C ≡ C) ⊎ (g.size - count (spread g X C) g.size < g.size - count C g.size)
    go (inl f) = inl (same_set (spread g X C) C (λ v m. f v (spread_within g X C v m) m) grown)
    go (inr c) = inr (omega (arith, count_le (spread g X C) g.size))

start : Graph → Set → ℕ → Set
start g X w = below g.size (λ v. X v && eqb v w)

start_spreads : (g : Graph) (X : Set) (w : ℕ) → w < g.size → w ∈ X → Spreading g X w (start g X w)
unfolding start
start_spreads g X w l x =
    record { inside = below_within g.size _; part = λ v m. (and_parts (X v) _ (below_from g.size _ v m)).0; walks = λ v m. go v (eqb-true v w (and_parts (X v) _ (below_from g.size _ v m)).1) }
  where
    first : w ∈ start g X w
    first = below_in g.size _ w l (and_from (X w) _ x (eq-eqb w w refl))

    go : (v : ℕ) → v ≡ w → Walk g (start g X w) w v
    go v e = rw e (here first)

component_spreads : (g : Graph) → Lawful g → (X : Set) (w : ℕ) → w < g.size → w ∈ X → Spreading g X w (component g X w)
unfolding component start
component_spreads g o X w l x = times_keeps (Spreading g X w) (spread g X) (spread_keeps g o X w) g.size (start g X w) (start_spreads g X w l x)

component_rests : (g : Graph) → Lawful g → (X : Set) (w : ℕ) → w < g.size → w ∈ X → spread g X (component g X w) ≡ component g X w
unfolding component start
component_rests g o X w l x =
    times_rest (Spreading g X w) (spread g X) (λ C. g.size - count C g.size) (spread_keeps g o X w) (spread_grows g X w) g.size (start g X w) (start_spreads g X w l x) (omega arith)

module _ (g : Graph) (o : Lawful g) (X : Set) (w : ℕ) (l : w < g.size) (x : w ∈ X) where
  pub component_within : Inside g (component g X w)
  component_within = (component_spreads g o X w l x).inside

  pub component_part : component g X w ⊆ X
  component_part = (component_spreads g o X w l x).part

  pub component_connected : Connected g (component g X w)
  component_connected u v a b =
      let walks = (component_spreads g o X w l x).walks in
      walk_join (walk_back o (walks u a)) (walks v b)

  pub component_closed : (u v : ℕ) → u ∈ component g X w → g.linked u v ≡ true → v ∈ X → v ∈ component g X w
  component_closed u v m k y = rw (component_rests g o X w l x) at (spread_takes g o X (component g X w) u v m k y)

  pub component_holds : w ∈ component g X w
  unfolding component start
  component_holds =
      (times_keeps (λ C. (w ∈ C) × Inside g C × (C ⊆ X)) (spread g X) (λ C h. (spread_holds g X C h.1 h.2 w h.0, spread_within g X C, λ v m. (spread_from g X C v m).0)) g.size (start g X w)
      (below_in g.size _ w l (and_from (X w) _ x (eq-eqb w w refl)), (start_spreads g X w l x).inside, (start_spreads g X w l x).part)).0

  -- a walk in a part of X from somebody of the component stays in it
  pub component_takes : (Y : Set) → Y ⊆ X → {u v : ℕ} → u ∈ component g X w → Walk g Y u v → v ∈ component g X w
  component_takes Y p m r = walk_closed (component g X w) (λ u v a k y. component_closed u v a k (p v y)) m r

  pub component_greatest : (Y : Set) → Y ⊆ X → Connected g Y → w ∈ Y → Y ⊆ component g X w
  component_greatest Y p c m v n = component_takes Y p component_holds (c w v m n)

  pub component_tight : (k : ℕ) → Tight g k X → Tight g k (component g X w)
  component_tight k t u m = omega (arith, t u (component_part u m), degree_mono g X (component g X w) u (λ v k y. component_closed u v m k y))

-- whatever w is
pub component_of : (g : Graph) (X : Set) (w : ℕ) → component g X w ⊆ X
unfolding component
component_of g X w = times_keeps (λ C. C ⊆ X) (spread g X) (λ C h v m. (spread_from g X C v m).0) g.size (below g.size (λ v. X v && eqb v w)) (λ v m. (and_parts (X v) _ (below_from g.size _ v m)).0)

module _ (g : Graph) (o : Lawful g) where
  -- components with a common person are the same
  pub component_same : (X : Set) → Inside g X → (u v : ℕ) → u ∈ X → v ∈ component g X u → component g X v ≡ component g X u
  component_same X ins u v x m =
      let xv : v ∈ X = component_part g o X u (ins u x) x v m in
      let con = component_connected g o X u (ins u x) x in
      same_set (component g X v) (component g X u) (λ y n. component_takes g o X u (ins u x) x X (λ _ s. s) m (walk_mono (component_part g o X v (ins v xv) xv) (component_connected g o X v (ins v xv) xv v y (component_holds g o X v (ins v xv) xv) n)))
      (component_greatest g o X v (ins v xv) xv (component g X u) (component_part g o X u (ins u x) x) con m)

-- the component of a core is a group
pub core_group : (g : Graph) → Lawful g → (k : ℕ) (X : Set) (v : ℕ) → v ∈ core g k X → Group g k (component g (core g k X) v)
core_group g o k X v m =
    let D : Set = core g k X in
    let l : v < g.size = core_within g k X v m in
    record { inside = component_within g o D v l m; someone = (v, component_holds g o D v l m); connected = component_connected g o D v l m; tight = component_tight g o D v l m k (core_tight g k X) }

pub component_is_greatest : ComponentIsGreatest
component_is_greatest g o X w l x = (component_holds g o X w l x, component_part g o X w l x, component_connected g o X w l x, component_greatest g o X w l x, component_tight g o X w l x)
