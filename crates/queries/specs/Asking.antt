-- What a query asks for, and which numbers make none. Assumes nothing.
--     query_fault k r choice      why the numbers make no query, if they make none
--     fault_of q                  the refusal, if there is one
--     Asks q k r choice           the query has these numbers
--     listing_of le net q         the listing of the network that the query asks for
use Rattle.std.specs.Prelude.{◌≡◌, ℕ, Bool, if◌then◌else◌, ◌||◌, List, Some, None, Ok, Err, Option, Result, nat_lt}
use Rattle.faults.specs.declared.call_fault.CallFault.{CallFault}
use Rattle.faults.specs.declared.call_fault.CallFault.TheVariants.{BadQuery}
use Rattle.networks.specs.Net.{Net}
use Rattle.meaning.specs.Persons.{graph_of, order_of}
use Rattle.theory.specs.Listing.{Entry, listing}
use Rattle.queries.specs.Choosing.{choice_numbered, choice_of}
use Rattle.queries.specs.declared.query.Query.{Query}

abbrev pub query_fault : ℕ → ℕ → ℕ → Option CallFault
query_fault k r choice = if (nat_lt k 1 || nat_lt 4095 k) || ((nat_lt r 1 || nat_lt 1024 r) || nat_lt 1 choice) then Some BadQuery else None

abbrev pub fault_of : {A : Type 0} → Result A CallFault → Option CallFault
fault_of (Ok a) = None
fault_of (Err f) = Some f

abbrev pub Asks : Query → ℕ → ℕ → ℕ → Type 0
Asks q k r choice = (q.k ≡ k) × (q.r ≡ r) × (choice_numbered choice ≡ Ok q.choice)

abbrev pub listing_of : {G : Type 0} → (G → G → Bool) → Net G → Query → List Entry
listing_of le net q = listing (graph_of net) (order_of le net) q.k q.r (choice_of q.choice)
