-- What tidy rows say as a whole, and the network that they mean. Assumes nothing.
--     links rows u v              v stands in the row of u
--     in_row rows u               who stands in the row of u, rising
--     frame rows                  what no change of links alters
--     net_of rows grades          as many of the grades as there are rows, and these links
use Rattle.std.specs.Prelude.{ℕ, Bool, List, filter}
use Rattle.std.specs.List.{range_with_len}
use Rattle.std.specs.Vec.{vec_items}
use Rattle.networks.specs.Net.{Net}
use Rattle.rows.specs.declared.tidy.TidyRows.{TidyRows}
use Rattle.rows.specs.Rows.{Frame, linked_in, net_in, frame_in}

abbrev pub links : TidyRows → ℕ → ℕ → Bool
links rows = linked_in rows.n rows.span (vec_items rows.counts) (vec_items rows.cells)

abbrev pub in_row : TidyRows → ℕ → List ℕ
in_row rows u = filter (links rows u) (range_with_len 0 rows.n)

abbrev pub frame : TidyRows → Frame
frame rows = frame_in rows.n rows.span (vec_items rows.counts) (vec_items rows.cells)

abbrev pub net_of : {G : Type 0} → TidyRows → List G → Net G
net_of rows grades = net_in rows.n rows.span (vec_items rows.counts) (vec_items rows.cells) grades
