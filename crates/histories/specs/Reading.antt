-- What the answer of a program's call tells, with the memory that it wrote. Assumes nothing.
--     circle_in members h         the circle that a head tells of: its weakest person, and its members
--     circles_in heads members    the circles of a row of heads
--     told_done r, told_numbers r n row, told_circles r heads members, told_entries r, told_holder r  what is told by a result
use Rattle.std.specs.Prelude.{ℕ, List, map, take, drop, Some, None, Ok, Err, Option, Result}
use Rattle.std.proofs.Math.Option.{Option as Holding, some, none}
use Rattle.faults.specs.declared.call_fault.CallFault.{CallFault}
use Rattle.theory.specs.Listing.{Entry}
use Rattle.queries.specs.declared.head.Head.{Head}
use Rattle.histories.specs.Answers.{Told, done, refused, numbers, circles, entries, holder}

abbrev pub circle_in : List ℕ → Head → Entry
circle_in members h = (h.weakest, take h.number (drop h.place members))

abbrev pub circles_in : List Head → List ℕ → List Entry
circles_in heads members = map (circle_in members) heads

abbrev pub told_done : Result (Unit {0}) CallFault → Told
told_done (Ok x) = done
told_done (Err f) = refused f

-- of n persons, in the first places of the row
abbrev pub told_numbers : Result (Unit {0}) CallFault → ℕ → List ℕ → Told
told_numbers (Ok x) n row = numbers (take n row)
told_numbers (Err f) n row = refused f

-- the answer is the number of circles
abbrev pub told_circles : Result ℕ CallFault → List Head → List ℕ → Told
told_circles (Ok n) heads members = circles (circles_in (take n heads) members)
told_circles (Err f) heads members = refused f

abbrev pub told_entries : Result ℕ CallFault → Told
told_entries (Ok n) = entries n
told_entries (Err f) = refused f

abbrev pub holder_of : Option ℕ → Holding ℕ
holder_of None = none
holder_of (Some h) = some h

abbrev pub told_holder : Result (Option ℕ) CallFault → Told
told_holder (Ok h) = holder (holder_of h)
told_holder (Err f) = refused f
