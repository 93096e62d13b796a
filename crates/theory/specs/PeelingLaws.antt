-- The laws of peeling. Assumes nothing.
--     PeelingMeetsCirclesOnce     peeling meets every circle exactly once, rising
--     RoundStaysInComponent       a round takes persons of one component only, and leaves what that component alone would leave
--     DroppedAreOwn               who is dropped in a round is in its circle and in no circle that it holds
--     InnermostDropsAll           a circle is innermost exactly when its round drops the whole of it
--     InnermostIsTested           where persons may be level: innermost exactly when nobody is left once the weakest and all level with it are out
use Rattle.std.specs.Prelude.{◌≡◌, ℕ, not, ◌&&◌}
use Rattle.std.specs.List.{AllByRecursion}
use Rattle.theory.specs.Sets.{Set, Relation, ◌∈◌, ◌⊆◌, without, minus, both_of, ◌among◌, Pairwise}
use Rattle.theory.specs.Graphs.{Graph, Lawful, Inside, Tight}
use Rattle.theory.specs.Orders.{Order, Strict, Below, Weakest}
use Rattle.theory.specs.Circles.{Circle, LevelCircle, Innermost, Own}
use Rattle.theory.specs.Cores.{everyone, core, component}
use Rattle.theory.specs.Peeling.{dropped, peel}

abbrev pub PeelingMeetsCirclesOnce : Type 0
PeelingMeetsCirclesOnce =
    (g : Graph) → Lawful g → (le : Relation) → Order le → Strict le → (k : ℕ) →
    AllByRecursion (λ e. Circle g le k e.1 × Weakest le e.1 e.0) (peel g le k g.size (core g k (everyone g)))
    × Pairwise (λ e f. Below le e.0 f.0) (peel g le k g.size (core g k (everyone g)))
    × ((S : Set) (w : ℕ) → Circle g le k S → Weakest le S w → (w, S) among peel g le k g.size (core g k (everyone g)))

abbrev pub RoundStaysInComponent : Type 0
RoundStaysInComponent =
    (g : Graph) → Lawful g → (k : ℕ) (R : Set) (w : ℕ) → Inside g R → Tight g k R → w ∈ R →
    (core g k (without R w) ≡ both_of (minus R (component g R w)) (core g k (without (component g R w) w)))
    × (dropped g k R w ⊆ component g R w)
    × (dropped g k R w ≡ dropped g k (component g R w) w)

abbrev pub DroppedAreOwn : Type 0
DroppedAreOwn =
    (g : Graph) → Lawful g → (le : Relation) → Order le → Strict le → (k : ℕ) (S : Set) (w : ℕ) → Circle g le k S → Weakest le S w →
    ((v : ℕ) → v ∈ dropped g k S w → Own (Circle g le k) S v) × ((v : ℕ) → Own (Circle g le k) S v → v ∈ dropped g k S w)

abbrev pub InnermostDropsAll : Type 0
InnermostDropsAll =
    (g : Graph) → Lawful g → (le : Relation) → Order le → Strict le → (k : ℕ) (S : Set) (w : ℕ) → Circle g le k S → Weakest le S w →
    (Innermost (Circle g le k) S → dropped g k S w ≡ S) × (dropped g k S w ≡ S → Innermost (Circle g le k) S)

abbrev pub InnermostIsTested : Type 0
InnermostIsTested =
    (g : Graph) → Lawful g → (le : Relation) → Order le → (k : ℕ) (S : Set) (w : ℕ) → LevelCircle g le k S → Weakest le S w →
    (Innermost (LevelCircle g le k) S → (v : ℕ) → v ∈ core g k (λ u. S u && not (le u w)) → ⊥)
    × (((v : ℕ) → v ∈ core g k (λ u. S u && not (le u w)) → ⊥) → Innermost (LevelCircle g le k) S)
