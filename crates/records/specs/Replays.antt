-- What the lines of a journal bring back.
use Rattle.std.specs.Prelude.{◌≡◌, ℕ, List, length, map, Ok}
use Rattle.semantics.specs.Entries.{Entry}
use Rattle.semantics.specs.Journals.{Recorded as TheRecorded, Commanded as TheCommanded, Received as TheReceived, entries_from, recorded}
use Rattle.semantics.specs.WorldHistory.{BeginsWith}
use Rattle.requests.specs.operation.Ops.{command_of, stamped_of}
use Rattle.records.specs.declared.record.Recorded.{Recorded}
use Rattle.records.specs.declared.record.Recorded.TheVariants.{Commanded, Received}
use Rattle.records.specs.Lines.{record_form}

-- what a record of the program means
abbrev pub record_meant : Recorded → TheRecorded
record_meant (Commanded a c) = TheCommanded a (command_of c)
record_meant (Received op) = TheReceived (stamped_of op)

-- G is F with the entries of these lines after it, in their order
pub record BringsBackLines (F : List Entry) (lines : List (List ℕ)) (G : List Entry) : Type 0 where
  pub begins : BeginsWith G F
  pub records : map record_form lines ≡ map (λ x. Ok x) (map recorded (entries_from (length F) G))
