-- Answers that go by the first refusal that applies, if one does. Assumes nothing.
--     answered f a                a, or the refusal
--     unless f a b                a where nothing is refused, else b
--     code_of r                   0 where granted, else the refusal's number
use Rattle.std.specs.Prelude.{ℕ, Some, None, Ok, Err, Option, Result}
use Rattle.faults.specs.declared.call_fault.CallFault.{CallFault}
use Rattle.faults.specs.Numbers.{number_of}

abbrev pub answered : {A : Type 0} → Option CallFault → A → Result A CallFault
answered None a = Ok a
answered (Some f) a = Err f

abbrev pub unless : {A : Type 0} → Option CallFault → A → A → A
unless None a b = a
unless (Some f) a b = b

abbrev pub code_of : {A : Type 0} → Result A CallFault → ℕ
code_of (Ok a) = 0
code_of (Err f) = number_of f
