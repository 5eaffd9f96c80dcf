-- Handlers of the program as those of the definitions.
use Rattle.std.specs.Prelude.{Result, Ok, Err}
use Rattle.ids.specs.declared.refusal.Refusal.{Refusal}
use Rattle.semantics.specs.Delivery as delivery
use Rattle.inbox.specs.operation.declared.command.Delivered.{Delivered}
use Rattle.inbox.specs.Inboxes.{delivered_of}
use Rattle.replica.specs.Replicas.{replica_of}
use Rattle.semantics.specs.Handling.{Handler as TheHandler}
use Rattle.replica.specs.declared.handler.Handler.{Handler}

-- a handler
abbrev pub handler_of : Handler → TheHandler
handler_of h = record { replica = replica_of h.replica; behind = h.behind }

-- the answer to a delivery
abbrev pub outcome_of : Result Delivered Refusal → delivery.Delivered
outcome_of (Ok d) = delivered_of d
outcome_of (Err why) = delivery.NotKept why
