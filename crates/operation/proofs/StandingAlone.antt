-- What holds of an operation that shows no fault without a history.
use Rattle.std.proofs.Common.{◌≡◌, None, refl}
use Rattle.semantics.specs.Faults.{StandsAlone}
use Rattle.semantics.specs.Entries.{stamped_in}
use Rattle.semantics.proofs.AloneTests.{stands_alone}
use Rattle.operation.specs.declared.command.Entry.{Entry}
use Rattle.operation.specs.declared.command.Entry.TheVariants.{Own, Peer}
use Rattle.operation.specs.declared.op.Op.{Op}
use Rattle.operation.specs.Alone.{alone_fault_of_op}
use Rattle.operation.specs.Ops.{entry_of, op_in, stamped_of}

-- the operation of an entry
pub stamped_same : (e : Entry) → stamped_in (entry_of e) ≡ stamped_of (op_in e)
stamped_same (Own client serial c o) = refl
stamped_same (Peer o) = refl

pub passed_alone : (o : Op) → alone_fault_of_op o ≡ None → StandsAlone (stamped_of o)
passed_alone o h = stands_alone (stamped_of o) h
