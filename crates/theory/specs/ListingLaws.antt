-- The laws of orders with the ties broken, of lists of members, and of the listing. Assumes nothing.
--     TiesAreBroken               by number, and by any strict order that agrees: no two persons are level any more
--     SmallerNumberIsWeaker       with the ties broken, weaker means weaker in grade, or level and of the smaller number
--     DataIsLawful                every list of pairs gives a lawful graph, and every list of grades an order
--     MembersRise                 the list of members is rising, has the members and nobody else, and is as long as their count
--     ListingIsRight              the function of the listing meets the relation, and is the only list that does
--     LevelListingIsRight         the same of the names, where persons may be level
--     PeelingLists                the listing of all circles is the last r that peeling meets
use Rattle.std.specs.Prelude.{◌≡◌, ℕ, ◌<◌, true, ◌⊎◌, List, map, length}
use Rattle.theory.specs.Sets.{Set, Relation, ◌∈◌, ◌among◌, count, Pairwise, members}
use Rattle.theory.specs.Graphs.{Graph, Lawful, from_pairs}
use Rattle.theory.specs.Orders.{Order, Strict, Below, Ranking, by_grade, by_number, not_after, tie_broken}
use Rattle.theory.specs.Cores.{everyone, core}
use Rattle.theory.specs.Peeling.{peel}
use Rattle.theory.specs.Listing.{Choice, every, Entry, Lists, LevelLists, last, names, listing}

abbrev pub TiesAreBroken : Type 0
TiesAreBroken =
    (le : Relation) → Order le →
    Ranking le (by_number le) × ((weaker : Relation) → Ranking le weaker → Order (not_after weaker) × Strict (not_after weaker) × Ranking (not_after weaker) weaker)

abbrev pub SmallerNumberIsWeaker : Type 0
SmallerNumberIsWeaker =
    (le : Relation) → Order le → (u v : ℕ) →
    (Below (tie_broken le) u v → Below le u v ⊎ ((le u v ≡ true) × (le v u ≡ true) × (u < v)))
    × (Below le u v ⊎ ((le u v ≡ true) × (le v u ≡ true) × (u < v)) → Below (tie_broken le) u v)

abbrev pub DataIsLawful : Type 0
DataIsLawful = ((n : ℕ) (ps : List (ℕ × ℕ)) → Lawful (from_pairs n ps)) × ((grade : ℕ → ℕ) → Order (by_grade grade))

abbrev pub MembersRise : Type 0
MembersRise = (p : Set) (n : ℕ) → Pairwise (λ u v. u < v) (members p n) × ((v : ℕ) → (v among members p n → (v < n) × (v ∈ p)) × (v < n → v ∈ p → v among members p n)) × (length (members p n) ≡ count p n)

abbrev pub ListingIsRight : Type 0
ListingIsRight =
    (g : Graph) → Lawful g → (le : Relation) → Order le → Strict le → (k r : ℕ) (choice : Choice) →
    Lists g le k r choice (listing g le k r choice)
    × ((es : List Entry) → Lists g le k r choice es → es ≡ listing g le k r choice)

abbrev pub LevelListingIsRight : Type 0
LevelListingIsRight =
    (g : Graph) → Lawful g → (le : Relation) → Order le → (weaker : Relation) → Ranking le weaker → (k r : ℕ) (choice : Choice) →
    LevelLists g le weaker k r choice (names g le weaker k r choice)
    × ((ws : List ℕ) → LevelLists g le weaker k r choice ws → ws ≡ names g le weaker k r choice)

abbrev pub PeelingLists : Type 0
PeelingLists =
    (g : Graph) → Lawful g → (le : Relation) → Order le → Strict le → (k r : ℕ) →
    listing g le k r every ≡ last r (map (λ e. (e.0, members e.1 g.size)) (peel g le k g.size (core g k (everyone g))))
