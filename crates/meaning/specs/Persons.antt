-- A network as the theory sees it: its graph, and the order of its persons. Assumes nothing.
--     graph_of net                who is linked to whom
--     grade_at_most le g h        a grade is at most another; nobody's is at most every other
--     by_grades le net            at most as strong, by the grades alone
--     order_of le net             at most as strong, by grade and then by number: the smaller number is weaker
--     cores_of net                the core number of each person
use Rattle.std.specs.Prelude.{ℕ, Bool, true, false, List, map, Some, None, Option}
use Rattle.std.specs.List.{slice_get, range_with_len}
use Rattle.networks.specs.Net.{Net}
use Rattle.theory.specs.Cores.{core_number}
use Rattle.theory.specs.Graphs.{Graph}
use Rattle.theory.specs.Orders.{tie_broken}
use Rattle.theory.specs.Sets.{Relation}

abbrev pub graph_of : {G : Type 0} → Net G → Graph
graph_of net = record { size = net.persons; linked = net.linked }

abbrev pub grade_at_most : {G : Type 0} → (G → G → Bool) → Option G → Option G → Bool
grade_at_most le None h = true
grade_at_most le (Some g) None = false
grade_at_most le (Some g) (Some h) = le g h

abbrev pub by_grades : {G : Type 0} → (G → G → Bool) → Net G → Relation
by_grades le net u v = grade_at_most le (slice_get net.grades u) (slice_get net.grades v)

abbrev pub order_of : {G : Type 0} → (G → G → Bool) → Net G → Relation
order_of le net = tie_broken (by_grades le net)

abbrev pub cores_of : {G : Type 0} → Net G → List ℕ
cores_of net = map (core_number (graph_of net)) (range_with_len 0 net.persons)
