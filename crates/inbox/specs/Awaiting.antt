-- What waiting operations wait for, and the smallest of them that is ready.
use Rattle.std.specs.Prelude.{◌≡◌, ◌≢◌, ◌<◌, ◌⊎◌, ℕ, Bool, true, false, ⊤, cond, not, List, [], ◌∷◌, Option, Some, None, slice_get}
use Rattle.std.specs.Ordering.{nat_cmp, ordering_then}
use Rattle.std.specs.declared.cmp.Ordering.{Ordering}
use Rattle.std.specs.FinMap.{find, put}
use Rattle.std.specs.FinMap.Entries.{where_key}
use Rattle.std.specs.BTreeSet.{BTreeSet, Updates, contains}
use Rattle.semantics.specs.Ids.{OpId, id_at, id_cmp, is_same_id, is_smaller_id}
use Rattle.semantics.specs.Vectors.{Vector, at}
use Rattle.semantics.specs.Operations.{Operation}
use Rattle.semantics.specs.Faults.{is_ready}
use Rattle.document.specs.operation.declared.op.Op.{Op}
use Rattle.document.specs.operation.Ops.{stamped_of}
use Rattle.ids.specs.Growing.{Growing}
use Rattle.slab.specs.Slab.{Slab, get}
use Rattle.inbox.specs.declared.awaited.Awaited.{Awaited}
use Rattle.inbox.specs.declared.waits.Waits.{Waits}

-- by replica, then by counter, then by key
abbrev pub await_cmp : Awaited → Awaited → Ordering
await_cmp a b = ordering_then (nat_cmp a.replica b.replica) (ordering_then (nat_cmp a.counter b.counter) (nat_cmp a.key b.key))

-- the counter that an id names, which the operation at the key waits for
abbrev pub awaited_by : OpId → ℕ → Awaited
awaited_by a k = record { replica = a.replica; counter = a.counter; key = k }

-- one counter of the vector of o, which stands at k, is held as awaited
pub record IsAwaiting (awaits : BTreeSet Awaited) (k : ℕ) (o : Op) : Type 0 where
  pub index : ℕ
  pub id : OpId
  pub there : slice_get o.deps index ≡ Some id
  pub held : contains await_cmp awaits (awaited_by id k) ≡ true

-- no two counters are awaited by the operation at one key
abbrev pub AreSingle : BTreeSet Awaited → Type 0
AreSingle awaits = (p q : Awaited) → contains await_cmp awaits p ≡ true → contains await_cmp awaits q ≡ true → p.key ≡ q.key → p ≡ q

-- at most one counter is awaited by the operation at each key, and none where there is no operation
pub record AreOnly (s : Slab Op) (awaits : BTreeSet Awaited) : Type 0 where
  pub stands : (q : Awaited) → contains await_cmp awaits q ≡ true → get s q.key ≢ None
  pub single : AreSingle awaits

-- how much was seen of a replica
abbrev pub seen_at : Growing → ℕ → ℕ
seen_at v p = at v.ids p

-- what is awaited is above what was seen
abbrev pub AreUnseen : Waits → Type 0
AreUnseen w = (q : Awaited) → contains await_cmp w.awaits q ≡ true → seen_at w.seen q.replica < q.counter

-- at k stands the operation with the id a, and it awaits nothing
pub record IsUnblocked (s : Slab Op) (awaits : BTreeSet Awaited) (a : OpId) (k : ℕ) : Type 0 where
  pub op : Op
  pub stands : get s k ≡ Some op
  pub id : op.id ≡ a
  pub none : (q : Awaited) → contains await_cmp awaits q ≡ true → q.key ≢ k

-- each operation of the slab has its key by its id, and waits for one counter of its vector, above what was seen, or is among those
-- that may be ready; nothing else is awaited, and nothing else may be ready
pub record AreAwaiting (s : Slab Op) (es : List (OpId × ℕ)) (w : Waits) : Type 0 where
  pub by_id : (k : ℕ) (o : Op) → get s k ≡ Some o → find id_cmp o.id es ≡ Some k
  pub each : (k : ℕ) (o : Op) → get s k ≡ Some o → IsAwaiting w.awaits k o ⊎ (find id_cmp o.id w.ready.entries ≡ Some k)
  pub only : AreOnly s w.awaits
  pub ready : (a : OpId) (k : ℕ) → find id_cmp a w.ready.entries ≡ Some k → IsUnblocked s w.awaits a k
  pub unseen : AreUnseen w

-- the same are awaited, may be ready, and were seen
pub record SameWaits (old new : Waits) : Type 0 where
  pub awaits : (q : Awaited) → contains await_cmp new.awaits q ≡ contains await_cmp old.awaits q
  pub ready : new.ready.entries ≡ old.ready.entries
  pub seen : new.seen ≡ old.seen

-- the id that the vector of o names at an index is neither applied nor seen
pub record IsAhead (applied : Vector) (seen : Growing) (o : Op) (i : ℕ) : Type 0 where
  pub id : OpId
  pub there : slice_get o.deps i ≡ Some id
  pub above : at applied id.replica < id.counter
  pub unseen : seen_at seen id.replica < id.counter

-- o, which stands at k, is entered under the counter of such an id
pub record IsEnteredAt (applied : Vector) (old new : Waits) (k : ℕ) (o : Op) : Type 0 where
  pub index : ℕ
  pub ahead : IsAhead applied old.seen o index
  pub awaits : Updates await_cmp old.awaits new.awaits (awaited_by ahead.id k) true
  pub ready : new.ready.entries ≡ old.ready.entries
  pub seen : new.seen ≡ old.seen

-- o, which stands at k, is entered among those that may be ready
pub record IsEnteredReady (old new : Waits) (k : ℕ) (o : Op) : Type 0 where
  pub awaits : (q : Awaited) → contains await_cmp new.awaits q ≡ contains await_cmp old.awaits q
  pub ready : new.ready.entries ≡ put id_cmp o.id k old.ready.entries
  pub seen : new.seen ≡ old.seen

-- one of the two
abbrev pub IsEntered : Vector → Waits → Waits → ℕ → Op → Type 0
IsEntered applied old new k o = IsEnteredAt applied old new k o ⊎ IsEnteredReady old new k o

-- the operation with the id a, which stood at k, no longer waits for anything, and isn't among those that may be ready
pub record IsForgotten (old new : Waits) (a : OpId) (k : ℕ) : Type 0 where
  pub kept : (q : Awaited) → q.key ≢ k → contains await_cmp new.awaits q ≡ contains await_cmp old.awaits q
  pub gone : (q : Awaited) → contains await_cmp new.awaits q ≡ true → q.key ≢ k
  pub ready : new.ready.entries ≡ where_key id_cmp (λ b. not (is_same_id a b)) old.ready.entries
  pub seen : new.seen ≡ old.seen

-- whether there is an operation, and it is ready after H
abbrev pub is_ready_if : List Operation → Option Op → Bool
is_ready_if H None = false
is_ready_if H (Some o) = is_ready H (stamped_of o)

-- the same for the operation at k
abbrev pub is_ready_at : List Operation → Slab Op → ℕ → Bool
is_ready_at H s k = is_ready_if H (get s k)

-- what is named with its key is ready after H
abbrev pub IsReadyAt : List Operation → Slab Op → Option (OpId × ℕ) → Type 0
IsReadyAt H s None = ⊤
IsReadyAt H s (Some l) = (o : Op) × (get s l.1 ≡ Some o) × (o.id ≡ l.0) × (is_ready H (stamped_of o) ≡ true)

-- the first entry whose operation is ready after H
abbrev pub first_of : List Operation → Slab Op → List (OpId × ℕ) → Option (OpId × ℕ)
first_of H s [] = None
first_of H s (e ∷ es) = cond (is_ready_at H s e.1) (Some e) (first_of H s es)

-- something is named, and it is smaller than a
abbrev pub is_above : Option (OpId × ℕ) → OpId → Bool
is_above None a = false
is_above (Some l) a = is_smaller_id l.0 a

-- something is named, and a isn't smaller
abbrev pub IsMet : Option (OpId × ℕ) → OpId → Type 0
IsMet None a = ⊥
IsMet (Some l) a = is_smaller_id a l.0 ≡ false

-- if what stands at k is ready, it isn't smaller than what is named
abbrev pub IsSettled : List Operation → Slab Op → Option (OpId × ℕ) → ℕ → Type 0
IsSettled H s least k = (o : Op) → get s k ≡ Some o → is_ready H (stamped_of o) ≡ true → IsMet least o.id

-- if this is what the operation at its key waits for, and that operation is ready, it isn't smaller than what is named
abbrev pub IsPassed : List Operation → Slab Op → Option (OpId × ℕ) → Awaited → Type 0
IsPassed H s least q = (o : Op) (i : ℕ) → get s q.key ≡ Some o → slice_get o.deps i ≡ Some (id_at q.counter q.replica)
    → is_ready H (stamped_of o) ≡ true → IsMet least o.id
