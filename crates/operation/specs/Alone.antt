-- What can be seen of an operation with no history at hand.
use Rattle.std.specs.Prelude.{Bool, true, Option}
use Rattle.ids.specs.declared.refusal.Refusal.{Refusal}
use Rattle.semantics.specs.Vectors.{Vector, covers}
use Rattle.semantics.specs.Paths.{Hop, FieldHop, ItemHop}
use Rattle.semantics.specs.Faults.{alone_fault}
use Rattle.operation.specs.declared.op.Op.{Op}
use Rattle.operation.specs.Ops.{stamped_of}

-- the first fault of an operation alone
abbrev pub alone_fault_of_op : Op → Option Refusal
alone_fault_of_op o = alone_fault (stamped_of o)

-- the key is a field's, or that of an item that the vector covers
abbrev pub key_covered : Vector → Hop → Bool
key_covered v (FieldHop n) = true
key_covered v (ItemHop a) = covers v a
