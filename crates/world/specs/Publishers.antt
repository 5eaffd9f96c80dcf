-- What a publisher has published, and what it will publish.
use Rattle.std.specs.Prelude.{◌≡◌, ◌++◌, List}
use Rattle.semantics.specs.Stamped.{IsLegalStamped}
use Rattle.semantics.specs.Entries.{Entry as TheEntry, stamped_entries}
use Rattle.semantics.specs.Joining.{HadRoom}
use Rattle.semantics.specs.WorldHistory.{BeginsWith}
use Rattle.replica.specs.operation.declared.command.Entry.{Entry}
use Rattle.replica.specs.oplog.Logs.{history}
use Rattle.replica.specs.document.Documents.{Contents}

-- all that was appended: what is published, and then the pending entries, the oldest first
abbrev pub appended_of : Contents → List Entry → List TheEntry
appended_of published pending = history pending ++ published.entries

-- each pending entry may be published in its turn: what was appended is a legal history, and its replicas fit into the table
pub record CanPublish (published : Contents) (pending : List Entry) : Type 0 where
  pub legal : IsLegalStamped (stamped_entries (appended_of published pending))
  pub fits : HadRoom published.members (appended_of published pending)

-- some pending entries were published, so that these are left
pub record PublishesMore (published : Contents) (pending : List Entry) (after : Contents) (left : List Entry) : Type 0 where
  pub members : after.members ≡ published.members
  pub appended : appended_of after left ≡ appended_of published pending
  pub more : BeginsWith after.entries published.entries
  pub publisher : CanPublish after left
