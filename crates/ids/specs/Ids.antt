-- The ids of operations and their order.
use Rattle.std.specs.Prelude.{ℕ, Bool}
use Rattle.std.specs.declared.cmp.Ordering.{Ordering}
use Rattle.std.specs.Ordering.{nat_cmp, ordering_then, is_lt, is_eq}
-- printed counter@replica
pub use Rattle.ids.specs.declared.id.OpId.{OpId}

-- the id with this counter and replica
abbrev pub id_at : ℕ → ℕ → OpId
id_at c p = record { counter = c; replica = p }

-- by counter, ties by replica number
abbrev pub id_cmp : OpId → OpId → Ordering
id_cmp a b = ordering_then (nat_cmp a.counter b.counter) (nat_cmp a.replica b.replica)

-- the same order from the greatest down
abbrev pub falling_cmp : OpId → OpId → Ordering
falling_cmp a b = id_cmp b a

-- a and b are one id
abbrev pub is_same_id : OpId → OpId → Bool
is_same_id a b = is_eq (id_cmp a b)

-- a is before b
abbrev pub is_smaller_id : OpId → OpId → Bool
is_smaller_id a b = is_lt (id_cmp a b)

-- a set of ids, by its test
abbrev pub IdSet : Type 0
IdSet = OpId → Bool
