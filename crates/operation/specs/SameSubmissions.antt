-- When two submissions are the same, by which a client decides whether an answer is for what it submitted.
use Rattle.std.specs.Prelude.{◌==◌, ◌&&◌, Bool, false}
use Rattle.operation.specs.SameOps.{is_same_command, is_same_operation}
use Rattle.operation.specs.Ops.{command_of, stamped_of}
use Rattle.operation.specs.declared.submission.Request.{Request}
use Rattle.operation.specs.declared.submission.Request.TheVariants.{Command, Peer}
use Rattle.operation.specs.declared.submission.Submission.{Submission}

-- both ask for the same
abbrev pub is_same_request : Request → Request → Bool
is_same_request (Command c) (Command d) = is_same_command (command_of c) (command_of d)
is_same_request (Peer o) (Peer p) = is_same_operation (stamped_of o) (stamped_of p)
is_same_request _ _ = false

-- both ask for the same, under one client, serial and floor
abbrev pub is_same_submission : Submission → Submission → Bool
is_same_submission x y = (x.client == y.client) && (x.serial == y.serial) && (x.floor == y.floor) && is_same_request x.request y.request
