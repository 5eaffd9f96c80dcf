-- The answers that an entry history allows to what was submitted, and to a question.
use Rattle.std.specs.Prelude.{◌≡◌, ◌⊎◌, ℕ, ◌<◌, ◌≤◌, ⊤, List, [], ◌∷◌, length, Some, Err}
use Rattle.semantics.specs.Ids.{OpId}
use Rattle.ids.specs.declared.refusal.Refusal.{Refusal}
use Rattle.ids.specs.declared.refusal.Refusal.TheVariants.{NoMemory, BadFloor}
use Rattle.semantics.specs.Questions.{Question, Answer}
use Rattle.semantics.specs.DocumentAnswer.{document_answer}
use Rattle.semantics.specs.Vectors.{Vector}
use Rattle.semantics.specs.Stamped.{Stamped}
use Rattle.semantics.specs.Making.{Command, make}
use Rattle.semantics.specs.Entries.{Entry, Own, Peer, applied, stamped_entries, entry_at, first_entries, missing}

-- what a client asks of the writer: to make an operation of a command, or to take one that a peer sent
pub data Request : Type 0 where
  OfCommand : Command → Request
  OfPeer : Stamped → Request

-- a request as a client submitted it; the floor is the length of the history that the client had seen
pub record Submitted : Type 0 where
  pub client : ℕ
  pub serial : ℕ
  pub request : Request
  pub floor : ℕ

-- the operation with this id stands at entry n, or the request was refused at length m, or a peer's operation was kept, or known
-- already, and the history has length m then
pub data Reply : Type 0 where
  Made : OpId → ℕ → Reply
  RefusedAt : (why : Refusal) (length : ℕ) → Reply
  KeptAt : (length : ℕ) → Reply
  KnownAt : (length : ℕ) → Reply

-- no entry has this client and serial
abbrev pub LacksSerial : (client serial : ℕ) → List Entry → Type 0
LacksSerial client serial [] = ⊤
LacksSerial client serial (Own k n c s ∷ G) = (k ≡ client → n ≡ serial → ⊥) × LacksSerial client serial G
LacksSerial client serial (Peer s ∷ G) = LacksSerial client serial G

-- the refusal of the command is true of the first m entries of replica p: it is that of its rules, or NoMemory, or m is below the floor
abbrev pub IsCause : (own : ℕ) → List Entry → Submitted → Command → (length : ℕ) → Refusal → Type 0
IsCause p G x c m e = (make (applied (first_entries m G)) p c ≡ Err e) ⊎ (e ≡ NoMemory) ⊎ ((e ≡ BadFloor) × (m < x.floor))

-- the reply to a submitted command that an entry history of replica p allows: the command stands at entry n, or no entry has it
-- at length m, where it is refused
abbrev pub IsLegalAnswer : ℕ → List Entry → Submitted → Command → Reply → Type 0
IsLegalAnswer p G x c (Made a n) = (s : Stamped) × (entry_at n G ≡ Some (Own x.client x.serial c s)) × (s.id ≡ a)
IsLegalAnswer p G x c (RefusedAt e m) = (m ≤ length G) × IsCause p G x c m e × LacksSerial x.client x.serial (first_entries m G)
IsLegalAnswer p G x c (KeptAt m) = ⊥
IsLegalAnswer p G x c (KnownAt m) = ⊥

-- a question to the document, or for the operations that a vector doesn't name
pub data Asked : Type 0 where
  OfDocument : Question → Asked
  Missing : Vector → Asked

-- the document's answer, or those operations, the newest first
pub data Reading : Type 0 where
  Answered : Answer → Reading
  MissingAre : List Stamped → Reading

-- what an entry history answers
abbrev pub reading_of : List Entry → Asked → Reading
reading_of G (OfDocument q) = Answered (document_answer (applied G) q)
reading_of G (Missing v) = MissingAre (missing v (stamped_entries G))

-- the reading at length m
abbrev pub IsLegalReading : List Entry → ℕ → Asked → Reading → Type 0
IsLegalReading G m q r = (m ≤ length G) × (r ≡ reading_of (first_entries m G) q)
