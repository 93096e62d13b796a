-- A listing written out: heads, and behind one another the members of all circles. Assumes nothing.
--     head_of e place             the head of a circle whose first member stands at the place
--     heads_from place es         the heads of circles, the first member of the first at the place
--     heads_of es                 the heads of a listing
--     members_of es               the members of a listing, circle after circle
use Rattle.std.specs.Prelude.{ℕ, ◌+◌, List, [], ◌∷◌, ◌++◌, length}
use Rattle.theory.specs.Listing.{Entry}
use Rattle.queries.specs.declared.head.Head.{Head}

abbrev pub head_of : Entry → ℕ → Head
head_of e place = record { weakest = e.0; number = length e.1; place = place }

abbrev pub heads_from : ℕ → List Entry → List Head
heads_from place [] = []
heads_from place (e ∷ es) = head_of e place ∷ heads_from (place + length e.1) es

abbrev pub heads_of : List Entry → List Head
heads_of es = heads_from 0 es

abbrev pub members_of : List Entry → List ℕ
members_of [] = []
members_of (e ∷ es) = e.1 ++ members_of es
