-- The answers that a history allows to what was submitted; a delivery's answer is true of some beginning of it.
use Rattle.std.specs.Prelude.{◌≡◌, ◌⊎◌, ℕ, ◌<◌, ◌≤◌, ⊤, true, false, List, length, Some}
use Rattle.ids.specs.declared.refusal.Refusal.{Refusal}
use Rattle.ids.specs.declared.refusal.Refusal.TheVariants.{NoMemory, BadFloor, HistoryFull, InboxFull, OwnName}
use Rattle.semantics.specs.Stamped.{Stamped}
use Rattle.semantics.specs.LegalHistory.{has_id}
use Rattle.semantics.specs.Faults.{alone_fault}
use Rattle.semantics.specs.Making.{is_full}
use Rattle.semantics.specs.Entries.{Entry, applied, first_entries, stamped_entries}
use Rattle.semantics.specs.Joining.{check_fault}
use Rattle.semantics.specs.LegalAnswer.{Request, OfCommand, OfPeer, Submitted, Reply, Made, RefusedAt, KeptAt, KnownAt, IsLegalAnswer}
use Rattle.semantics.specs.LegalAnswer.{LacksSerial}
use Rattle.semantics.specs.Delivery.{Delivered, Kept, Known, NotKept, answer_to}
use Rattle.semantics.specs.WorldHistory.{IsNotBelow}

-- the answer to a delivery of s to replica p, with these members and entries, where W waits
abbrev pub answer_with : (own : ℕ) (members : List ℕ) → List Entry → List Stamped → Stamped → Delivered
answer_with p ps G W s = answer_to (record { own = p; members = ps; entries = G; waiting = W; dropped = 0 }) s

-- d was the answer after the first k entries of G, for some k from the floor to m and some inbox
pub record WasAnswered (p : ℕ) (ps : List ℕ) (G : List Entry) (s : Stamped) (floor m : ℕ) (d : Delivered) : Type 0 where
  pub k : ℕ
  pub from : floor ≤ k
  pub to : k ≤ m
  pub within : m ≤ length G
  pub waiting : List Stamped
  pub answer : answer_with p ps (first_entries k G) waiting s ≡ d

-- the reply to a peer's operation: the delivery's answer, or an allocation failed, or m is below the floor
abbrev pub IsPeerAnswer : (own : ℕ) (members : List ℕ) → List Entry → Submitted → Stamped → Reply → Type 0
IsPeerAnswer p ps G x s (Made a n) = ⊥
IsPeerAnswer p ps G x s (KeptAt m) = WasAnswered p ps G s x.floor m Kept
IsPeerAnswer p ps G x s (KnownAt m) = WasAnswered p ps G s x.floor m Known
IsPeerAnswer p ps G x s (RefusedAt e m) =
    WasAnswered p ps G s x.floor m (NotKept e)
    ⊎ ((e ≡ NoMemory) × (x.floor ≤ m) × (m ≤ length G))
    ⊎ ((e ≡ BadFloor) × (m < x.floor) × (m ≤ length G))

-- the position or the length that a reply to a command names isn't below the floor, unless it is refused for that
abbrev pub IsFromFloor : (floor : ℕ) → Reply → Type 0
IsFromFloor floor (RefusedAt e m) = IsNotBelow floor (RefusedAt e m) ⊎ (e ≡ BadFloor)
IsFromFloor floor y = IsNotBelow floor y

-- y is a reply to what was submitted that the history G of replica p, with these members, allows
abbrev pub IsAnswer : (own : ℕ) (members : List ℕ) → List Entry → Submitted → Reply → Type 0
IsAnswer p ps G x y = of_request x.request
  where
    of_request : Request → Type 0
    of_request (OfCommand c) = IsLegalAnswer p G x c y × IsFromFloor x.floor y
    of_request (OfPeer s) = IsPeerAnswer p ps G x s y

-- what was refused stands nowhere in G, neither before the length that is named nor after it
abbrev pub LacksRefused : List Entry → Submitted → Reply → Type 0
LacksRefused G x (RefusedAt e m) = LacksSerial x.client x.serial G
LacksRefused G x (Made a n) = ⊤
LacksRefused G x (KeptAt m) = ⊤
LacksRefused G x (KnownAt m) = ⊤

-- x may be answered y with a notice of G: the reply is one that G allows, and what it refuses stands nowhere in G
abbrev pub IsAnswerWith : (own : ℕ) (members : List ℕ) → List Entry → Submitted → Reply → Type 0
IsAnswerWith p ps G x y = IsAnswer p ps G x y × LacksRefused G x y

-- G has the position, or the length, that a reply names
abbrev pub IsWithin : List Entry → Reply → Type 0
IsWithin G (Made a n) = n < length G
IsWithin G (RefusedAt e m) = m ≤ length G
IsWithin G (KeptAt m) = m ≤ length G
IsWithin G (KnownAt m) = m ≤ length G

-- the refusal is true of the operation and of these entries of replica p, or it is InboxFull, of which nothing is said
abbrev pub IsTrueOf : (own : ℕ) (members : List ℕ) → List Entry → Stamped → Refusal → Type 0
IsTrueOf p ps G s e =
    (alone_fault s ≡ Some e)
    ⊎ ((e ≡ OwnName) × (s.id.replica ≡ p) × (has_id (applied G) s.id ≡ false))
    ⊎ ((e ≡ HistoryFull) × (is_full G ≡ true))
    ⊎ (e ≡ InboxFull)
    ⊎ (check_fault ps (stamped_entries G) s ≡ Some e)
