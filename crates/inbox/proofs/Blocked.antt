-- What waits for a counter that isn't applied isn't ready.
use Rattle.std.proofs.Common.{◌≡◌, ◌≢◌, ◌≤◌, ℕ, zero, suc, max, Bool, true, false, cond, ◌==◌, List, [], ◌∷◌, nat_le, slice_get, Some}
use Rattle.std.proofs.Common.{refl, subst}
use Rattle.std.specs.List.{list_all}
use Rattle.std.proofs.lemmas.Bool.{and_parts, eqb-true, leb-true}
use Rattle.std.proofs.lemmas.Option.{none-some}
use Rattle.semantics.specs.Ids.{OpId}
use Rattle.semantics.specs.Operations.{Operation}
use Rattle.semantics.specs.Vectors.{Vector, at}
use Rattle.semantics.specs.NamedIds.{greatest_counter}
use Rattle.semantics.specs.Faults.{is_ready}
use Rattle.document.specs.operation.declared.op.Op.{Op}
use Rattle.document.specs.operation.Ops.{stamped_of}
use Rattle.inbox.proofs.KeptAwaits.{same_some}

each_at_most : (f : ℕ → ℕ) (v : Vector) → list_all (λ (a : OpId). nat_le a.counter (f a.replica)) v ≡ true → (i : ℕ) (a : OpId)
    → slice_get v i ≡ Some a → a.counter ≤ f a.replica
each_at_most f [] h i a there = absurd (none-some a there)
each_at_most f (b ∷ v) h zero a there =
    subst (λ (x : OpId). x.counter ≤ f x.replica) (same_some there)
    (leb-true b.counter (f b.replica)
    (and_parts (nat_le b.counter (f b.replica)) (list_all (λ (x : OpId). nat_le x.counter (f x.replica)) v)
    h).0)
each_at_most f (b ∷ v) h (suc i) a there =
    each_at_most f v
    (and_parts (nat_le b.counter (f b.replica)) (list_all (λ (x : OpId). nat_le x.counter (f x.replica)) v) h).1 i a there

-- each counter of the vector of a ready operation is applied
pub ready_at : (H : List Operation) (o : Op) → is_ready H (stamped_of o) ≡ true → (i : ℕ) (a : OpId) → slice_get o.deps i ≡ Some a
    → a.counter ≤ greatest_counter H a.replica
ready_at H o ready i a there = each_at_most (greatest_counter H) o.deps ready i a there

-- what is named for a replica stands at a position
pub position_at : (v : Vector) (p : ℕ) → at v p ≢ 0 → (j : ℕ) × (b : OpId) × (slice_get v j ≡ Some b) × (b.replica ≡ p)
position_at [] p n = absurd (n refl)
position_at (b ∷ v) p n = at_test (position_at v p) (b.replica == p) refl n
  where
    at_test : (at v p ≢ 0 → (j : ℕ) × (c : OpId) × (slice_get v j ≡ Some c) × (c.replica ≡ p)) → (t : Bool) → (b.replica == p) ≡ t
        → cond t (max b.counter (at v p)) (at v p) ≢ 0 → (j : ℕ) × (c : OpId) × (slice_get (b ∷ v) j ≡ Some c) × (c.replica ≡ p)
    at_test rest true e m = (0, b, refl, eqb-true b.replica p e)
    at_test rest false e m = (let it = rest m in (suc it.0, it.1, it.2, it.3))
