-- A beginning of a history, with the name of the logbook that it is written in, and what a history of an engine is.
use Rattle.std.specs.Prelude.{ℕ, ◌≤◌, List, length}
use Rattle.logbook.specs.Pages.{Book}
use Rattle.semantics.specs.Entries.{Entry as TheEntry, IsEntryHistory}
use Rattle.semantics.specs.Joining.{HadRoom}
use Rattle.semantics.specs.Limits.{most_entries}
use Rattle.document.specs.operation.declared.command.Entry.{Entry}

-- the entries, the oldest first
pub record Beginning : Type 0 where
  pub log : List Entry
  pub book : Book

-- G is a history of the engine with this number and these members: an entry history of at most 256 replicas, within the limit
pub record IsHistoryOfEngine (own : ℕ) (members : List ℕ) (G : List TheEntry) : Type 0 where
  pub legal : IsEntryHistory own G
  pub known : HadRoom members G
  pub few : length G ≤ most_entries
