-- The numbers of differences are within their limits if those of the vector are.
use Rattle.std.proofs.Common.{◌≡◌, ℕ, ◌≤◌, ◌==◌, nat_le, nat_lt, Bool, true, false, cond, IsTrue, [], ◌∷◌, refl, arith}
use Rattle.std.specs.Bool.{⊤}
use Rattle.std.proofs.lemmas.Bool.{and_parts, leb-true}
use Rattle.ids.specs.Vectors.{IsNamed}
use Rattle.semantics.specs.Ids.{OpId, id_at}
use Rattle.semantics.specs.Limits.{most_counter}
use Rattle.semantics.specs.Operations.{element_of}
use Rattle.semantics.specs.Paths.{hops_from_root}
use Rattle.semantics.specs.Stamped.{Stamped}
use Rattle.semantics.specs.Vectors.{AreAbove, IsCanonical, Vector}
use Rattle.operation.specs.declared.op.Op.{Op}
use Rattle.operation.specs.Ops.{mutation_of, stamped_of}
use Rattle.wire.specs.Deltas.{beside, delta}
use Rattle.wire.specs.Profiles.{AreSentChanges, IsSentBeside}
use Rattle.wire.specs.Sent.{AreReplicaNumbers, CanBeSent, IsReplicaNumber, IsSent, IsSentMutation, IsSentVector, IsTypedPlace, are_counters}
use Rattle.wire.specs.Sent.{is_counter}
use Rattle.wire.proofs.ReadBack.{sent_keys}

-- ---- counters

-- each counter is within its limit, or 0
abbrev AreWithin : Vector → Type 0
AreWithin [] = ⊤
AreWithin (a ∷ d) = IsTrue (nat_le a.counter most_counter) × AreWithin d

within_counters : (v : Vector) → are_counters v ≡ true → AreWithin v
within_counters [] h = tt
within_counters (a ∷ v) h =
    let n = and_parts (is_counter a.counter) (are_counters v) h in
    let limits = and_parts (nat_le 1 a.counter) (nat_le a.counter most_counter) n.0 in
    (limits.1, within_counters v n.1)

within_beside : (b : OpId) (d : Vector) → AreWithin d → AreWithin (beside b d)
within_beside b [] h = (refl, tt)
within_beside b (a ∷ d) h = by (nat_lt a.replica b.replica) (a.replica == b.replica) (a.counter == b.counter) (within_beside b d h.1)
  where
    by : (s t u : Bool) → AreWithin (beside b d)
        → AreWithin (cond s (a ∷ beside b d) (cond t (cond u d (a ∷ d)) (id_at 0 b.replica ∷ a ∷ d)))
    by true t u more = (h.0, more)
    by false true true more = h.1
    by false true false more = h
    by false false u more = (refl, h)

within_delta : (base v : Vector) → AreWithin v → AreWithin (delta base v)
within_delta [] v h = h
within_delta (b ∷ base) v h = within_beside b (delta base v) (within_delta base v h)

both_within : (d : Vector) → AreReplicaNumbers d → AreWithin d → AreSentChanges d
both_within [] typed within = tt
both_within (a ∷ d) typed within = ((typed.0, within.0), both_within d typed.1 within.1)

-- what types guarantee, and what a caller answers for, is all that a line relative to a base needs
pub typed_sent_beside : (base : Vector) (o : Op) → IsNamed o.deps → IsReplicaNumber o.id.replica → AreReplicaNumbers (delta base o.deps)
    → IsTypedPlace o.place → IsSentMutation (mutation_of o.mutation) → CanBeSent (stamped_of o) → IsSentBeside base (stamped_of o)
typed_sent_beside base o named own_typed told_typed place_typed within sent =
    record {
      id = (sent.id, own_typed);
      canonical = named.canonical;
      changes = both_within (delta base o.deps) told_typed (within_delta base o.deps (within_counters o.deps sent.vector));
      few_pairs = named.few;
      keys = sent_keys (hops_from_root (element_of o.place)) place_typed.keys sent.items;
      few = place_typed.few;
      mutation = within;
    }

-- ---- replicas

sent_beside : (b : OpId) (d : Vector) → IsReplicaNumber b.replica → AreSentChanges d → AreSentChanges (beside b d)
sent_beside b [] l h = ((l, refl), tt)
sent_beside b (a ∷ d) l h = by (nat_lt a.replica b.replica) (a.replica == b.replica) (a.counter == b.counter) (sent_beside b d l h.1)
  where
    by : (s t u : Bool) → AreSentChanges (beside b d)
        → AreSentChanges (cond s (a ∷ beside b d) (cond t (cond u d (a ∷ d)) (id_at 0 b.replica ∷ a ∷ d)))
    by true t u more = (h.0, more)
    by false true true more = h.1
    by false true false more = h
    by false false u more = ((l, refl), h)

sent_changes : (p : ℕ) (v : Vector) → IsSentVector p v → AreSentChanges v
sent_changes p [] h = tt
sent_changes p (a ∷ v) h =
    let limits = and_parts (nat_le 1 a.counter) (nat_le a.counter most_counter) h.1.0 in
    ((h.1.1, limits.1), sent_changes a.replica v h.2)

sent_delta : (p q : ℕ) (base v : Vector) → IsSentVector p base → IsSentVector q v → AreSentChanges (delta base v)
sent_delta p q [] v h k = sent_changes q v k
sent_delta p q (b ∷ base) v h k = sent_beside b (delta base v) h.1.1 (sent_delta b.replica q base v h.2 k)

above_sent : (p q : ℕ) (v : Vector) → p ≤ q → IsSentVector q v → AreAbove p v
above_sent p q [] l h = tt
above_sent p q (a ∷ v) l h = (omega (arith, l, h.0), above_sent p a.replica v (omega (arith, l, h.0)) h.2)

-- a vector that can be sent is canonical
pub canonical_sent : (p : ℕ) (v : Vector) → IsSentVector p v → IsCanonical v
canonical_sent p [] h = tt
canonical_sent p (a ∷ v) h =
    let limits = and_parts (nat_le 1 a.counter) (nat_le a.counter most_counter) h.1.0 in
    let some : 1 ≤ a.counter = leb-true 1 a.counter limits.0 in
    ((λ e. omega (arith, some, e)), above_sent a.replica a.replica v (omega arith) h.2, canonical_sent a.replica v h.2)

-- an operation that can be sent can be sent relative to any such base
pub sent_is_beside : (base : Vector) (s : Stamped) → IsSentVector 0 base → IsSent s → IsSentBeside base s
sent_is_beside base s h sent = record {
  id = sent.id;
  canonical = canonical_sent 0 s.vector sent.vector;
  changes = sent_delta 0 0 base s.vector h sent.vector;
  few_pairs = sent.few_pairs;
  keys = sent.keys;
  few = sent.few;
  mutation = sent.mutation;
}
