-- When a received operation passes every test: alone, for being ready, and against the table and the history.
use Rattle.std.specs.Prelude.{ℕ, Bool, ◌&&◌, List, is_none}
use Rattle.semantics.specs.Faults.{is_ready}
use Rattle.semantics.specs.Entries.{Entry as TheEntry, applied, stamped_entries}
use Rattle.semantics.specs.Joining.{check_fault}
use Rattle.oplog.specs.operation.declared.op.Op.{Op}
use Rattle.oplog.specs.operation.Alone.{alone_fault_of_op}
use Rattle.oplog.specs.operation.Ops.{stamped_of}

-- after these entries, no test finds a fault in the received operation
abbrev pub is_lawful : (members : List ℕ) → List TheEntry → Op → Bool
is_lawful ms G o = is_none (alone_fault_of_op o) && is_ready (applied G) (stamped_of o)
    && is_none (check_fault ms (stamped_entries G) (stamped_of o))
