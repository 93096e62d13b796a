-- The choice of a query: its number, and the circles that it asks for. Assumes nothing.
--     choice_numbered n           the choice with the number n, or the refusal where there is none
--     choice_of choice            every circle, or the innermost ones
use Rattle.std.specs.Prelude.{ℕ, if◌then◌else◌, Ok, Err, Result, ◌==◌}
use Rattle.faults.specs.declared.call_fault.CallFault.{CallFault}
use Rattle.faults.specs.declared.call_fault.CallFault.TheVariants.{BadQuery}
use Rattle.theory.specs.Listing.{Choice as Wanted, every, innermost}
use Rattle.queries.specs.declared.choice.Choice.{Choice}
use Rattle.queries.specs.declared.choice.Choice.TheVariants.{Every, Innermost}

abbrev pub choice_numbered : ℕ → Result Choice CallFault
choice_numbered n = if n == 0 then Ok Every else if n == 1 then Ok Innermost else Err BadQuery

abbrev pub choice_of : Choice → Wanted
choice_of Every = every
choice_of Innermost = innermost
