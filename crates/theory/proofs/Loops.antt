-- What cascades, searches and degree rows rest on.
use Rattle.std.proofs.Common.{◌≡◌, ℕ, suc, ◌<◌, ◌≤◌, Bool, true, false, not, ◌&&◌, eqb, ◌≢◌, sym, refl, ap, ◌∙◌, arith}
use Rattle.std.proofs.ByRecursion.{All-weaker}
use Rattle.std.proofs.lemmas.Bool.{and_from, and_parts}
use Rattle.theory.specs.Cores.{component, core, core_number, everyone}
use Rattle.theory.specs.Graphs.{degree, Inside, Tight}
use Rattle.theory.specs.LoopLaws.{CascadeEndsAtCore, CascadeKeepsCore, CoreNumberIsMet, DegreeByList, DegreeFallsByOne, drops, SearchEndsAtComponent, settled}
use Rattle.theory.specs.Sets.{bit, without, ◌∈◌}
use Rattle.theory.proofs.Components.{component_connected, component_holds, component_part, component_takes}
use Rattle.theory.proofs.Cores.{core_greatest, core_part, core_same, core_tight, core_within, degree_mono}
use Rattle.theory.proofs.Counting.{count_same, count_split}
use Rattle.theory.proofs.Lists.{count_by_list}
use Rattle.theory.proofs.Numbers.{number_tells}
use Rattle.theory.proofs.Sets.{same_set, same_test, without_from, without_in}
use Rattle.theory.proofs.Walks.{walk_closed}

pub cascade_keeps_core : CascadeKeepsCore
cascade_keeps_core g k X = (few, tight, twice)
  where
    few : (v : ℕ) → degree g X v < k → core g k (without X v) ≡ core g k X
    few v l = core_same g k (without X v) X (λ u m. (without_from X v u (core_part g k (without X v) u m)).0) (λ u m. without_in X v u (core_part g k X u m) (other u m))
      where
        other : (u : ℕ) → u ∈ core g k X → u ≢ v
        other u m e = let m' : v ∈ core g k X = rw e at m in omega (arith, core_tight g k X v m', degree_mono g (core g k X) X v (λ x _. core_part g k X x))

    tight : Inside g X → Tight g k X → core g k X ≡ X
    tight i t = same_set (core g k X) X (core_part g k X) (core_greatest g k X X i (λ _ m. m) t)

    twice : (w : ℕ) → core g k (without (core g k X) w) ≡ core g k (without X w)
    twice w =
        core_same g k (without (core g k X) w) (without X w) (λ u m. let (a, b) = without_from (core g k X) w u (core_part g k (without (core g k X) w) u m) in without_in X w u (core_part g k X u a) b)
        (λ u m.
        let (a, b) = without_from X w u (core_part g k (without X w) u m) in
        without_in (core g k X) w u (core_greatest g k X (core g k (without X w)) (core_within g k (without X w)) (λ y n. (without_from X w y (core_part g k (without X w) y n)).0) (core_tight g k (without X w)) u m) b)

pub cascade_ends_at_core : CascadeEndsAtCore
cascade_ends_at_core g k X Y settled ins ti = sym ((cascade_keeps_core g k X).1 ins ti)
cascade_ends_at_core g k X Y (drops v l f) ins ti = cascade_ends_at_core g k (without X v) Y f ins ti ∙ (cascade_keeps_core g k X).0 v l

pub search_ends_at_component : SearchEndsAtComponent
search_ends_at_component g o X w l x C m walks shut =
    same_set C (component g X w) (λ v c. component_takes g o X w l x X (λ _ n. n) (component_holds g o X w l x) (walks v c))
    (λ v c. walk_closed C (λ a b p q r. shut a b p q (component_part g o X w l x b r)) m (component_connected g o X w l x w v (component_holds g o X w l x) c))

pub core_number_is_met : CoreNumberIsMet
core_number_is_met g k v X m part few = go (number_tells g v (core_within g k (everyone g) v m) k) (number_tells g v (core_within g k (everyone g) v m) (suc k))
  where
    go : (v ∈ core g k (everyone g) → k ≤ core_number g v) × (k ≤ core_number g v → v ∈ core g k (everyone g)) → (v ∈ core g (suc k) (everyone g) → suc k ≤ core_number g v) × (suc k ≤ core_number g v → v ∈ core g (suc k) (everyone g)) → core_number g v ≡ k
    go a b = omega (arith, a.0 m, up)
      where
        up : ¬ (suc k ≤ core_number g v)
        up h = let n : v ∈ core g (suc k) (everyone g) = b.1 h in omega (arith, core_tight g (suc k) (everyone g) v n, degree_mono g (core g (suc k) (everyone g)) X v (λ x _. part x))

pub degree_falls_by_one : DegreeFallsByOne
unfolding degree without
degree_falls_by_one g S w u l m =
    let a = count_split (λ v. g.linked u v && S v) w g.size l in
    omega (arith, a, ap bit here_is, count_same (λ v. (g.linked u v && S v) && not (eqb v w)) (λ v. g.linked u v && (S v && not (eqb v w))) g.size (λ v _. turn (g.linked u v) (S v) (not (eqb v w))))
  where
    turn : (a b c : Bool) → ((a && b) && c) ≡ (a && (b && c))
    turn true b c = refl
    turn false b c = refl

    here_is : (g.linked u w && S w) ≡ g.linked u w
    here_is = same_test _ _ (λ h. (and_parts (g.linked u w) (S w) h).0) (λ h. and_from (g.linked u w) (S w) h m)

pub degree_by_list : DegreeByList
unfolding degree
degree_by_list g o u vs d f a S = count_by_list S (g.linked u) g.size vs d (λ v _ m. f v m) (All-weaker _ _ (λ v h. (o.within v u (o.symmetric u v h), h)) vs a)
