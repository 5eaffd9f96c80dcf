-- What is tested of an operation before it is compared with a line: it can be sent.
use Rattle.std.proofs.Common.{◌≡◌, ◌&&◌, true}
use Rattle.std.specs.List.{list_all}
use Rattle.std.proofs.lemmas.Bool.{and_parts}
use Rattle.semantics.specs.Operations.{element_of}
use Rattle.semantics.specs.Paths.{hops_from_root}
use Rattle.operation.specs.declared.op.Op.{Op}
use Rattle.operation.specs.Ops.{stamped_of}
use Rattle.wire.specs.Sent.{CanBeSent, are_counters, is_counter, key_counted}

pub tested_sent : (o : Op)
    → (is_counter o.id.counter && are_counters o.deps && list_all key_counted (hops_from_root (element_of o.place))) ≡ true
    → CanBeSent (stamped_of o)
tested_sent o counts =
    let both = and_parts (is_counter o.id.counter && are_counters o.deps)
    (list_all key_counted (hops_from_root (element_of o.place))) counts in
    let first = and_parts (is_counter o.id.counter) (are_counters o.deps) both.0 in
    record { id = first.0; vector = first.1; items = both.1 }
