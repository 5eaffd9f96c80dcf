-- The operations that wait in an inbox.
use Rattle.std.specs.Prelude.{◌≡◌, ℕ, Bool, true, false, ⊤, cond, List, [], ◌∷◌, length, map, filter_map, Some, None}
use Rattle.ids.specs.declared.refusal.Refusal.TheVariants.{InboxFull}
use Rattle.semantics.specs.Ids.{OpId, is_smaller_id}
use Rattle.semantics.specs.Operations.{Operation}
use Rattle.semantics.specs.LegalHistory.{IsAmong}
use Rattle.semantics.specs.Stamped.{Stamped}
use Rattle.semantics.specs.Faults.{is_ready}
use Rattle.semantics.specs.Replica.{IsRising}
use Rattle.semantics.specs.Delivery.{is_crowded, is_waiting}
use Rattle.semantics.specs.Delivery as delivery
use Rattle.document.specs.operation.declared.op.Op.{Op}
use Rattle.document.specs.operation.declared.command.Delivered.{Delivered}
use Rattle.document.specs.operation.declared.command.Delivered.TheVariants.{Known, Kept}
use Rattle.document.specs.operation.Alone.{alone_fault_of_op}
use Rattle.document.specs.operation.Ops.{stamped_of}
use Rattle.slab.specs.Slab.{Slab, get}
use Rattle.inbox.specs.declared.waits.Waits.{Waits}
use Rattle.inbox.specs.Awaiting.{AreAwaiting}

-- no fault of these can be seen without the history
abbrev pub StandAlone : List Op → Type 0
StandAlone ops = (o : Op) → IsAmong o ops → alone_fault_of_op o ≡ None

-- the answer to a delivery
abbrev pub delivered_of : Delivered → delivery.Delivered
delivered_of Known = delivery.Known
delivered_of Kept = delivery.Kept

-- operations as those that wait in the definitions
abbrev pub waiting_in : List Op → List Stamped
waiting_in ops = map stamped_of ops

-- in ascending order of id, so each id once
abbrev pub AreRising : List Op → Type 0
AreRising ops = IsRising (waiting_in ops)

-- o is one of these and ready after H, and no ready one of these has a smaller id
pub record IsLeastReady (H : List Operation) (ops : List Op) (o : Op) : Type 0 where
  pub waits : IsAmong o ops
  pub ready : is_ready H (stamped_of o) ≡ true
  pub least : (p : Op) → IsAmong p ops → is_ready H (stamped_of p) ≡ true → is_smaller_id p.id o.id ≡ false

-- none of these is ready after H
abbrev pub AreNotReady : List Operation → List Op → Type 0
AreNotReady H ops = (o : Op) → IsAmong o ops → is_ready H (stamped_of o) ≡ false

-- the answer to a put into an inbox where these wait
abbrev pub answer_to_put : Bool → List Stamped → Stamped → delivery.Delivered
answer_to_put ready W s = cond (is_waiting W s.id) delivery.Known
    (cond (is_crowded ready (length W)) (delivery.NotKept InboxFull) delivery.Kept)

-- the operations at the keys, in ascending order of id
abbrev pub ops_at : Slab Op → List (OpId × ℕ) → List Op
ops_at s entries = filter_map (λ e. get s e.1) entries

-- at each key stands an operation with the key's id
abbrev pub AreAtKeys : Slab Op → List (OpId × ℕ) → Type 0
AreAtKeys s [] = ⊤
AreAtKeys s (e ∷ es) = ((o : Op) × (get s e.1 ≡ Some o) × (o.id ≡ e.0)) × AreAtKeys s es

-- what an inbox keeps
pub record IsStored (s : Slab Op) (entries : List (OpId × ℕ)) (w : Waits) : Type 0 where
  pub at_keys : AreAtKeys s entries
  pub rising : AreRising (ops_at s entries)
  pub awaiting : AreAwaiting s entries w
