-- The core is inside, tight, and the greatest such.
use Rattle.std.proofs.Common.{◌≡◌, ℕ, ◌<◌, ◌≤◌, true, ◌&&◌, leb, ◌⊎◌, inl, inr, arith}
use Rattle.std.proofs.lemmas.Bool.{and_from, and_parts, le-leb, leb-true, lt-ltb, ltb-true}
use Rattle.theory.specs.CoreLaws.{CoreIsGreatest}
use Rattle.theory.specs.Cores.{core, everyone, prune}
use Rattle.theory.specs.Graphs.{degree, Graph, Inside, Tight}
use Rattle.theory.specs.Sets.{below, count, Set, ◌∈◌, ◌⊆◌}
use Rattle.theory.proofs.Counting.{count_le, count_mono, same_or_less}
use Rattle.theory.proofs.Iterating.{times_keeps, times_rest}
use Rattle.theory.proofs.Sets.{below_from, below_in, below_within, same_set}

pub degree_mono : (g : Graph) (S S' : Set) (u : ℕ) → ((v : ℕ) → g.linked u v ≡ true → v ∈ S → v ∈ S') → degree g S u ≤ degree g S' u
unfolding degree
degree_mono g S S' u h = count_mono _ _ g.size (λ v l m. let (a, b) = and_parts (g.linked u v) (S v) m in and_from (g.linked u v) (S' v) a (h v a b))

prune_part : (g : Graph) (k : ℕ) (X : Set) → prune g k X ⊆ X
unfolding prune
prune_part g k X v m = (and_parts (X v) (leb k (degree g X v)) (below_from g.size _ v m)).0

prune_within : (g : Graph) (k : ℕ) (X : Set) → Inside g (prune g k X)
unfolding prune
prune_within g k X v m = below_within g.size _ v m

-- a round changes nothing or takes somebody out
prune_falls : (g : Graph) (k : ℕ) (X : Set) → Inside g X → (prune g k X ≡ X) ⊎ (count (prune g k X) g.size < count X g.size)
prune_falls g k X i = go (same_or_less (prune g k X) X g.size (λ v _. prune_part g k X v))
  where
    go : ((v : ℕ) → v < g.size → v ∈ X → v ∈ prune g k X) ⊎ (count (prune g k X) g.size < count X g.size) → (prune g k X ≡ X) ⊎ (count (prune g k X) g.size < count X g.size)
    go (inl f) = inl (same_set (prune g k X) X (prune_part g k X) (λ v m. f v (i v m) m))
    go (inr c) = inr c

core_rests : (g : Graph) (k : ℕ) (X : Set) → prune g k (core g k X) ≡ core g k X
unfolding core
core_rests g k X =
    times_rest (Inside g) (prune g k) (λ Y. count Y g.size) (λ Y _. prune_within g k Y) (prune_falls g k) g.size (below g.size X)
    (below_within g.size X) (count_le (below g.size X) g.size)

pub core_within : (g : Graph) (k : ℕ) (X : Set) → Inside g (core g k X)
unfolding core
core_within g k X = times_keeps (Inside g) (prune g k) (λ Y _. prune_within g k Y) g.size (below g.size X) (below_within g.size X)

pub core_part : (g : Graph) (k : ℕ) (X : Set) → core g k X ⊆ X
unfolding core
core_part g k X = times_keeps (λ Y. Y ⊆ X) (prune g k) (λ Y h v m. h v (prune_part g k Y v m)) g.size (below g.size X) (below_from g.size X)

pub core_tight : (g : Graph) (k : ℕ) (X : Set) → Tight g k (core g k X)
unfolding prune
core_tight g k X u m =
    let C : Set = core g k X in
    let e : u ∈ prune g k C = rw (core_rests g k X) m in
    leb-true k (degree g C u) (and_parts (C u) (leb k (degree g C u)) (below_from g.size _ u e)).1

pub core_greatest : (g : Graph) (k : ℕ) (X Y : Set) → Inside g Y → Y ⊆ X → Tight g k Y → Y ⊆ core g k X
unfolding core prune
core_greatest g k X Y i p t =
    times_keeps (λ Z. Y ⊆ Z) (prune g k)
    (λ Z h v m. below_in g.size _ v (i v m) (and_from (Z v) (leb k (degree g Z v)) (h v m) (le-leb k (degree g Z v) (omega (arith, t v m, degree_mono g Y Z v (λ u _. h u))))))
    g.size (below g.size X) (λ v m. below_in g.size X v (i v m) (p v m))

pub core_same : (g : Graph) (k : ℕ) (X Y : Set) → core g k X ⊆ Y → core g k Y ⊆ X → core g k X ≡ core g k Y
core_same g k X Y p q =
    same_set (core g k X) (core g k Y) (core_greatest g k Y (core g k X) (core_within g k X) p (core_tight g k X)) (core_greatest g k X (core g k Y) (core_within g k Y) q (core_tight g k Y))

pub core_mono : (g : Graph) (k : ℕ) (X Y : Set) → X ⊆ Y → core g k X ⊆ core g k Y
core_mono g k X Y p = core_greatest g k Y (core g k X) (core_within g k X) (λ v m. p v (core_part g k X v m)) (core_tight g k X)

pub core_less : (g : Graph) (k k' : ℕ) (X : Set) → k ≤ k' → core g k' X ⊆ core g k X
core_less g k k' X h = core_greatest g k X (core g k' X) (core_within g k' X) (core_part g k' X) (λ u m. omega (arith, core_tight g k' X u m))

pub core_bound : (g : Graph) (k : ℕ) (X : Set) (u : ℕ) → u ∈ core g k X → k ≤ g.size
unfolding degree
core_bound g k X u m = omega (arith, core_tight g k X u m, count_le (λ v. g.linked u v && core g k X v) g.size)

pub everyone_in : (g : Graph) (u : ℕ) → u < g.size → u ∈ everyone g
unfolding everyone
everyone_in g u l = lt-ltb u g.size l

pub everyone_within : (g : Graph) → Inside g (everyone g)
unfolding everyone
everyone_within g u m = ltb-true u g.size m

pub core_is_greatest : CoreIsGreatest
core_is_greatest g k X = (core_within g k X, core_part g k X, core_tight g k X, core_greatest g k X)
