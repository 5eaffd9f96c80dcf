-- The two copies of the document, and their rule: readers are shown a snapshot of the engine's history, which begins with all that each
-- token has read.
use Rattle.std.specs.Prelude.{ℕ, ◌≡◌, ◌+◌, cond, List, ◌∷◌}
use mathlib.Core.Option.{some}
use lib.ListN.{get_elem?}
use Rattle.logbook.specs.Pages.{Book}
use Rattle.semantics.specs.Entries.{Entry as TheEntry}
use Rattle.semantics.specs.WorldHistory.{BeginsWith}
use Rattle.document.specs.operation.declared.command.Entry.{Entry}
use Rattle.document.specs.operation.Ops.{entry_of, op_in}
use Rattle.document.specs.oplog.Logs.{history}
use Rattle.document.specs.Lawful.{is_lawful}
use Rattle.published.specs.declared.seen.View.{View}
use Rattle.published.specs.Beginnings.{IsHistoryOfEngine}

-- a copy: the table and the entries of its document, and the beginning of the history that it represents
pub record Snapshot : Type 0 where
  pub table : List ℕ
  pub entries : List TheEntry
  pub log : List Entry
  pub book : Book

-- an entry that is appended and not yet published, and the history after it
pub record Pending : Type 0 where
  pub entry : Entry
  pub log : List Entry
  pub book : Book

-- the copy with one more entry; its history is then the one that comes with the entry
abbrev pub appended_to : Snapshot → Pending → Snapshot
appended_to s w = record { table = s.table; entries = entry_of w.entry ∷ s.entries; log = w.log; book = w.book }

-- an entry is absorbed if it is lawful, and else left out
abbrev pub applied_to : Snapshot → Pending → Snapshot
applied_to s w = cond (is_lawful s.table s.entries (op_in w.entry)) (appended_to s w) s

-- the copy of these entries of the history, the oldest first
abbrev pub snapshot : Book → List ℕ → List Entry → Snapshot
snapshot book table log = record { table = table; entries = history log; log = log; book = book }

-- the view of a reader that last read these entries, and has made this many reads
abbrev pub reader_of : List Entry → ℕ → View
reader_of read reads = record { read = read; reads = reads }

module _ (book : Book) (own : ℕ) (table : List ℕ) where
  -- the copy is a snapshot of a history of this engine
  abbrev pub IsSnapshot : Snapshot → Type 0
  IsSnapshot s = (s ≡ snapshot book table s.log) × IsHistoryOfEngine own table (history s.log)

  -- the rule: what is shown is a snapshot, and begins with all that each token has read
  abbrev pub HoldsOfCopies : Snapshot → List View → Type 0
  HoldsOfCopies shown views = IsSnapshot shown
      × ((token : ℕ) (v : View) → get_elem? views token ≡ some v → BeginsWith shown.entries (history v.read))

  -- what one step of reading, counted as one more read, sees: what is shown after it, which begins with what was read before
  abbrev pub Sees : View → Snapshot → Snapshot → View → Type 0
  Sees v before after w = (after ≡ snapshot book table w.read) × IsHistoryOfEngine own table (history w.read)
      × BeginsWith (history w.read) (history v.read) × (w.reads ≡ v.reads + 1)
