-- The first fault of an operation without a history, by what its tests answer.
use Rattle.std.proofs.Common.{◌≡◌, Bool, Option}
use Rattle.semantics.specs.Operations.{Misplaced, element_of, misplaced}
use Rattle.semantics.specs.Faults.{first_failed, has_counter, items_covered}
use Rattle.operation.specs.declared.op.Op.{Op}
use Rattle.operation.specs.Alone.{alone_fault_of_op}
use Rattle.operation.specs.Ops.{mutation_of, stamped_of}

pub fault-alone : (o : Op) (b : Bool) (c : Option Misplaced) (d : Bool)
    → has_counter (stamped_of o) ≡ b
    → misplaced (mutation_of o.mutation) o.place ≡ c
    → items_covered o.deps (element_of o.place) ≡ d
    → alone_fault_of_op o ≡ first_failed b c d
fault-alone o b c d next inside stands = λ t. first_failed (next t) (inside t) (stands t)
