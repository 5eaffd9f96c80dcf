-- Refusals by their numbers.
use Rattle.std.specs.Prelude.{ℕ}
use Rattle.ids.specs.declared.refusal.Refusal.{Refusal}
use Rattle.ids.specs.declared.refusal.Refusal.TheVariants.{NoMemory, AtHead, PastEnd, NotInList, TooDeep, KeyTooLong, TextTooLong}
use Rattle.ids.specs.declared.refusal.Refusal.TheVariants.{HistoryFull, QueueFull, SerialEnd, Foreign, BadFloor, UnknownReplica, BadCounter}
use Rattle.ids.specs.declared.refusal.Refusal.TheVariants.{BrokenChain, NamesNothing, NotClosed, BadPlace, InboxFull, OwnName, NotWhole}
use Rattle.ids.specs.declared.refusal.Refusal.TheVariants.{BadLine, NoReaderPlace, BadConfig, NoReading, Closed}

-- the number of a refusal
abbrev pub number_of : Refusal → ℕ
number_of NoMemory = 1
number_of AtHead = 2
number_of PastEnd = 3
number_of NotInList = 4
number_of TooDeep = 5
number_of KeyTooLong = 6
number_of TextTooLong = 7
number_of HistoryFull = 8
number_of QueueFull = 9
number_of SerialEnd = 10
number_of Foreign = 11
number_of BadFloor = 12
number_of UnknownReplica = 13
number_of BadCounter = 14
number_of BrokenChain = 15
number_of NamesNothing = 16
number_of NotClosed = 17
number_of BadPlace = 18
number_of InboxFull = 19
number_of OwnName = 20
number_of NotWhole = 21
number_of BadLine = 22
number_of NoReaderPlace = 23
number_of BadConfig = 24
number_of NoReading = 25
number_of Closed = 26
