-- What contracts see of a token. Both histories have the newest entry first.
use Rattle.std.specs.Prelude.{ℕ, ◌≡◌, ◌⊎◌, Option, Some, None, List, []}
use Rattle.ids.specs.declared.refusal.Refusal.{Refusal}
use Rattle.ids.specs.declared.refusal.Refusal.TheVariants.{Closed, NoMemory, NoReading}
use Rattle.left_right.specs.Sides.{view}
use Rattle.left_right.specs.declared.reader.Reader.{Reader}
use Rattle.semantics.specs.Entries.{Entry as TheEntry}
use Rattle.document.specs.operation.declared.command.Entry.{Entry}
use Rattle.published.specs.declared.seen.View.{View}

-- the history that a token has seen, the one that was published at the step of its last read, and how many reads it has made
pub record TokenState : Type 0 where
  pub seen : List TheEntry
  pub read : List TheEntry
  pub reads : ℕ

-- why a token gives no reading to any question: an allocation failed, the copies gave none, or the engine is closed
abbrev pub GivesNoReading : Refusal → Type 0
GivesNoReading why = (why ≡ NoMemory) ⊎ (why ≡ NoReading) ⊎ (why ≡ Closed)

module _ {T P A : Type 0} where
  -- what a reader read last; nothing, if there is no reader
  abbrev pub read_of : Option (Reader T View P A) → List Entry
  read_of None = []
  read_of (Some r) = (view r.place).read

  -- how many reads it has made
  abbrev pub reads_of : Option (Reader T View P A) → ℕ
  reads_of None = 0
  reads_of (Some r) = (view r.place).reads
