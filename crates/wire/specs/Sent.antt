-- The operations that a line can carry, and the part of that which types guarantee.
use Rattle.std.specs.Prelude.{ℕ, ◌<◌, ◌≤◌, ⊤, IsTrue, Bool, true, List, [], ◌∷◌, length}
use Rattle.std.specs.List.{list_all}
use Rattle.ids.specs.Configurations.{is_from_one_to}
use Rattle.ids.specs.Vectors.{most_named}
use Rattle.semantics.specs.Limits.{most_counter, most_key_bytes, most_keys, most_replica}
use Rattle.semantics.specs.Ids.{OpId}
use Rattle.semantics.specs.Elements.{Place}
use Rattle.semantics.specs.Operations.{Mutation, Assign, Insert, Delete, element_of}
use Rattle.semantics.specs.Paths.{Hop, FieldHop, ItemHop, hops_from_root}
use Rattle.semantics.specs.Stamped.{Stamped}
use Rattle.semantics.specs.Vectors.{Vector}
use Rattle.operation.specs.cursor.Places.{depth_of}
use Rattle.operation.specs.value.Forms.{IsWithinLimits}

-- an id whose numbers are within their limits
abbrev pub IsSentId : OpId → Type 0
IsSentId a = IsTrue (is_from_one_to most_counter a.counter) × IsTrue (is_from_one_to most_replica a.replica)

-- such ids, in ascending order of replica, all above p
abbrev pub IsSentVector : ℕ → Vector → Type 0
IsSentVector p [] = ⊤
IsSentVector p (a ∷ v) = (p < a.replica) × IsSentId a × IsSentVector a.replica v

-- a field's key of at most 256 bytes, or an item's id within its limits
abbrev pub IsSentKey : Hop → Type 0
IsSentKey (FieldHop n) = length n ≤ most_key_bytes
IsSentKey (ItemHop a) = IsSentId a

-- such keys
abbrev pub AreSentKeys : List Hop → Type 0
AreSentKeys [] = ⊤
AreSentKeys (k ∷ ks) = IsSentKey k × AreSentKeys ks

-- a value within its limits
abbrev pub IsSentMutation : Mutation → Type 0
IsSentMutation (Assign v) = IsWithinLimits v
IsSentMutation (Insert v) = IsWithinLimits v
IsSentMutation Delete = ⊤

-- all lengths and numbers are within their limits
pub record IsSent (s : Stamped) : Type 0 where
  pub id : IsSentId s.id
  pub vector : IsSentVector 0 s.vector
  pub few_pairs : length s.vector ≤ most_named
  pub keys : AreSentKeys (hops_from_root (element_of s.place))
  pub few : depth_of s.place ≤ most_keys
  pub mutation : IsSentMutation s.mutation

-- ---- what a caller answers for, and what types guarantee

-- the counter is within the limits of the wire
abbrev pub is_counter : ℕ → Bool
is_counter c = is_from_one_to most_counter c

-- the counter of each id is within the limits of the wire
abbrev pub are_counters : Vector → Bool
are_counters v = list_all (λ a. is_counter a.counter) v

-- the key is a field's, or its counter is within the limits of the wire
abbrev pub key_counted : Hop → Bool
key_counted (FieldHop n) = true
key_counted (ItemHop a) = is_counter a.counter

-- all counters are within the limits of the wire: in its id, its vector and its place
pub record CanBeSent (s : Stamped) : Type 0 where
  pub id : IsTrue (is_counter s.id.counter)
  pub vector : IsTrue (are_counters s.vector)
  pub items : IsTrue (list_all key_counted (hops_from_root (element_of s.place)))

-- the number of a replica, from 1 to the greatest of 32 bits
abbrev pub IsReplicaNumber : ℕ → Type 0
IsReplicaNumber p = IsTrue (is_from_one_to most_replica p)

-- the replica of each id has such a number
abbrev pub AreReplicaNumbers : Vector → Type 0
AreReplicaNumbers [] = ⊤
AreReplicaNumbers (a ∷ v) = IsReplicaNumber a.replica × AreReplicaNumbers v

-- what the type of a key guarantees: a name of at most 256 bytes, or the number of a replica
abbrev pub IsTypedKey : Hop → Type 0
IsTypedKey (FieldHop n) = length n ≤ most_key_bytes
IsTypedKey (ItemHop a) = IsReplicaNumber a.replica

-- such keys
abbrev pub AreTypedKeys : List Hop → Type 0
AreTypedKeys [] = ⊤
AreTypedKeys (k ∷ ks) = IsTypedKey k × AreTypedKeys ks

-- what the types of a place guarantee
pub record IsTypedPlace (p : Place) : Type 0 where
  pub keys : AreTypedKeys (hops_from_root (element_of p))
  pub few : depth_of p ≤ most_keys
