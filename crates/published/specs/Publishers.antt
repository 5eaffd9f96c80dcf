-- The invariant of a publisher, between its calls.
use Rattle.std.specs.Prelude.{ℕ, ◌≡◌, List, fold}
use Rattle.logbook.specs.Pages.{Book, Named}
use Rattle.document.specs.oplog.Logs.{history}
use Rattle.published.specs.Beginnings.{Beginning, IsHistoryOfEngine}
use Rattle.published.specs.Rules.{head_of}
use Rattle.published.specs.Copies.{Snapshot, Pending, applied_to, snapshot}

-- what is shown is a snapshot; once all that is pending was absorbed or left out, it is the snapshot of all that was appended, which is a
-- history of the engine. So nothing is left out
pub record IsPublisher (book : Book) (own : ℕ) (table : List ℕ) (shown : Snapshot) (pending : List Pending) (head : Named)
    (all : Beginning) : Type 0 where
  pub stands : shown ≡ snapshot book table shown.log
  pub brought_up : fold applied_to shown pending ≡ snapshot book table all.log
  pub all_is : IsHistoryOfEngine own table (history all.log)
  pub head_is : head ≡ head_of book
  pub book_is : all.book ≡ book
