-- When a listing is refused: the first refusal that applies. Assumes nothing.
--     room_fault es heads members  a listing has more circles, or more members, than there are places
--     peel_fault n scratch waiting es heads members  for a peel of n persons with that much memory
--     plant_fault n scratch waiting sum size        for a plant of core numbers with that sum into a tree of that size
--     pick_fault valid n scratch es heads members    for a pick from a tree of n persons
use Rattle.std.specs.Prelude.{ℕ, ◌*◌, Bool, not, if◌then◌else◌, ◌||◌, List, length, Some, None, Option, nat_lt}
use Rattle.faults.specs.declared.call_fault.CallFault.{CallFault}
use Rattle.faults.specs.declared.call_fault.CallFault.TheVariants.{NoTree, ShortScratch, NoRoom}
use Rattle.theory.specs.Listing.{Entry}
use Rattle.queries.specs.Written.{members_of}

abbrev pub room_fault : List Entry → ℕ → ℕ → Option CallFault
room_fault es heads members = if nat_lt heads (length es) || nat_lt members (length (members_of es)) then Some NoRoom else None

abbrev pub peel_fault : ℕ → ℕ → ℕ → List Entry → ℕ → ℕ → Option CallFault
peel_fault n scratch waiting es heads members =
    if nat_lt scratch (8 * n) || nat_lt waiting n then Some ShortScratch else room_fault es heads members

abbrev pub pick_fault : Bool → ℕ → ℕ → List Entry → ℕ → ℕ → Option CallFault
pick_fault valid n scratch es heads members =
    if not valid then Some NoTree else if nat_lt scratch (8 * n) then Some ShortScratch else room_fault es heads members

abbrev pub plant_fault : ℕ → ℕ → ℕ → ℕ → ℕ → Option CallFault
plant_fault n scratch waiting sum size =
    if nat_lt scratch (8 * n) || nat_lt waiting n then Some ShortScratch else if nat_lt size sum then Some NoRoom else None
