-- The number of each refusal of a call. Assumes nothing.
--     number_of f                 the number of the refusal f
use Rattle.std.specs.Prelude.{ℕ}
use Rattle.faults.specs.declared.call_fault.CallFault.{CallFault}
use Rattle.faults.specs.declared.call_fault.CallFault.TheVariants.{TooLarge, ShortMemory, NoSuchPerson, SamePerson, AlreadyLinked, NotLinked, AtCeiling, BadQuery, NoTree, ShortScratch, NoRoom, NotWeakest}

abbrev pub number_of : CallFault → ℕ
number_of TooLarge = 6
number_of ShortMemory = 7
number_of NoSuchPerson = 8
number_of SamePerson = 9
number_of AlreadyLinked = 10
number_of NotLinked = 11
number_of AtCeiling = 12
number_of BadQuery = 13
number_of NoTree = 14
number_of ShortScratch = 15
number_of NoRoom = 16
number_of NotWeakest = 17
