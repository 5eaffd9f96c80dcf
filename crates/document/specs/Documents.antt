-- What contracts see of a document, of questions and of readings.
use Rattle.std.specs.Prelude.{◌≡◌, ℕ, ◌<◌, ◌≤◌, List, map, reverse, length}
use Rattle.ids.specs.Members.{AreDistinct}
use Rattle.ids.specs.Vectors.{most_named}
use Rattle.semantics.specs.Context.{doc}
use Rattle.semantics.specs.Joining.{table_after}
use Rattle.semantics.specs.NamedIds.{vector_of}
use Rattle.semantics.specs.Vectors.{Vector as TheVector}
use Rattle.semantics.specs.Stamped.{Stamped, IsLegalStamped, MayFollow}
use Rattle.semantics.specs.Entries.{Entry as TheEntry, applied, stamped_in, stamped_entries}
use Rattle.semantics.specs.Questions.{Values as AskValues, Keys as AskKeys, Items as AskItems, Conflicts as AskConflicts, AppliedVector}
use Rattle.semantics.specs.Questions.{ValuesAre, KeysAre, ItemsAre, ConflictsAre, VectorIs}
use Rattle.semantics.specs.LegalAnswer.{Asked, OfDocument, Missing as AskMissing, Reading as TheReading, Answered, MissingAre}
use Rattle.oplog.specs.value.Values.{scalar_of}
use Rattle.oplog.specs.cursor.Steps.{tag_of}
use Rattle.oplog.specs.operation.Ops.{stamped_of}
use Rattle.oplog.specs.Logs.{AreOfMembers}
use Rattle.tree.specs.Trees.{Planted, IsReserved, document}
use Rattle.document.specs.declared.question.Question.{Question}
use Rattle.document.specs.declared.question.Question.TheVariants.{Values, Keys, Items, Conflicts, Missing, Vector}
use Rattle.document.specs.declared.question.Reading.{Reading}
use Rattle.document.specs.declared.question.Reading.TheVariants as reading

-- a document: the members, the entries with the newest first, how many more entries there is room for, and the tree that they leave
pub record Contents : Type 0 where
  pub members : List ℕ
  pub entries : List TheEntry
  pub room : ℕ
  pub tree : Planted

-- the operation can be committed without allocating
pub record HasRoomFor (contents : Contents) (s : Stamped) : Type 0 where
  pub room : 0 < contents.room
  pub reserved : IsReserved contents.tree.nodes contents.tree.scalar s

-- the entry's operation may follow the history
abbrev pub MayFollowEntries : List TheEntry → TheEntry → Type 0
MayFollowEntries G e = MayFollow (applied G) (stamped_in e)

-- what is asked
abbrev pub asked_of : Question → Asked
asked_of (Values e) = OfDocument (AskValues e)
asked_of (Keys e) = OfDocument (AskKeys e)
asked_of (Items e) = OfDocument (AskItems e)
asked_of (Conflicts e) = OfDocument (AskConflicts e)
asked_of (Missing v) = AskMissing v
asked_of Vector = OfDocument AppliedVector

-- what a reading says; its missing operations are the oldest first
abbrev pub said_by : Reading → TheReading
said_by (reading.Values pairs) = Answered (ValuesAre (map (λ p. (p.0, scalar_of p.1)) pairs.items))
said_by (reading.Keys keys) = Answered (KeysAre keys.items)
said_by (reading.Items ids) = Answered (ItemsAre ids.items)
said_by (reading.Conflicts pairs) = Answered (ConflictsAre (map (λ p. (p.0, tag_of p.1)) pairs.items))
said_by (reading.Missing ops) = MissingAre (reverse (map stamped_of ops.items))
said_by (reading.Vector v) = Answered (VectorIs v)

-- the history is legal and its replicas are in the table, which is small; the vector names all that was applied; and the tree holds the
-- history's document
pub record IsConsistent (table : List ℕ) (v : TheVector) (G : List TheEntry) (t : Planted) : Type 0 where
  pub distinct : AreDistinct table
  pub few : length table ≤ most_named
  pub members : AreOfMembers table G
  pub vector : v ≡ vector_of (applied G)
  pub legal : IsLegalStamped (stamped_entries G)
  pub fits : t.table ≡ table
  pub content : document t ≡ doc (applied G)

-- the same, where the table is that of the members and of all replicas that have joined
pub record IsGrown (members table : List ℕ) (v : TheVector) (G : List TheEntry) (t : Planted) : Type 0 where
  pub grown : table ≡ table_after members G
  pub consistent : IsConsistent table v G t
