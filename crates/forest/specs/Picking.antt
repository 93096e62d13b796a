-- What is read from a tree: the vertices for k, the circle of a vertex, its holder, the listing. Assumes nothing.
--     of_number k vs              the vertices for k
--     under_of vs w               the holder's name in the first vertex named w
--     climbs vs n x w             do at most n steps from x to its holder come to w
--     gathered vs w               the persons of all vertices from which the holders lead to w
--     choose choice vs            the vertices that are chosen: all, or those that are no vertex's holder
--     pick n vs k r choice        the listing for k, r and the choice, from the tree of n persons
use Rattle.std.specs.Prelude.{ℕ, zero, suc, Bool, false, cond, not, ◌&&◌, ◌||◌, List, [], ◌∷◌, map, length, filter, ◌==◌, nat_eq}
use Rattle.std.proofs.Math.Option.{Option, some, none}
use Rattle.theory.specs.Sets.{Set, any_of, has, members}
use Rattle.theory.specs.Listing.{Choice, every, innermost, Entry, last}
use Rattle.forest.specs.Holders.{is}
use Rattle.forest.specs.Trees.{Vertex}

unfoldable pub of_number : ℕ → List Vertex → List Vertex
of_number k vs = filter (λ x. nat_eq x.k k) vs

unfoldable pub under_of : List Vertex → ℕ → Option ℕ
under_of [] w = none
under_of (x ∷ xs) w = cond (x.weakest == w) x.under (under_of xs w)

unfoldable pub climbs : List Vertex → ℕ → ℕ → ℕ → Bool
climbs vs zero x w = x == w
climbs vs (suc n) x w = x == w || elim (under_of vs x) [ none ↦ false | some h ↦ climbs vs n h w ]

unfoldable pub gathered : List Vertex → ℕ → Set
gathered vs w v = any_of (λ x. has v x.persons && climbs vs (length vs) x.weakest w) vs

unfoldable pub choose : Choice → List Vertex → List Vertex
choose every vs = vs
choose innermost vs = filter (λ x. not (any_of (λ y. is x.weakest y.under) vs)) vs

unfoldable pub pick : ℕ → List Vertex → ℕ → ℕ → Choice → List Entry
pick n vs k r choice = map (λ w. (w, members (gathered (of_number k vs) w) n)) (last r (map (λ x. x.weakest) (choose choice (of_number k vs))))
