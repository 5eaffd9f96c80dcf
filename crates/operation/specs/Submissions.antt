-- Submissions and replies of the program as those of the definitions.
use Rattle.semantics.specs.LegalAnswer.{Request as TheRequest, OfCommand, OfPeer, Submitted, Reply as TheReply, Made as MadeAs, RefusedAt}
use Rattle.semantics.specs.LegalAnswer.{KeptAt, KnownAt}
use Rattle.operation.specs.Ops.{command_of, stamped_of}
use Rattle.operation.specs.declared.submission.Request.{Request}
use Rattle.operation.specs.declared.submission.Request.TheVariants as request
use Rattle.operation.specs.declared.submission.Submission.{Submission}
use Rattle.operation.specs.declared.submission.Reply.{Reply}
use Rattle.operation.specs.declared.submission.Reply.TheVariants as reply

-- what is asked of the writer
abbrev pub request_of : Request → TheRequest
request_of (request.Command c) = OfCommand (command_of c)
request_of (request.Peer o) = OfPeer (stamped_of o)

-- what was submitted
abbrev pub submitted_of : Submission → Submitted
submitted_of x = record { client = x.client; serial = x.serial; request = request_of x.request; floor = x.floor }

-- the reply to what was submitted
abbrev pub reply_of : Reply → TheReply
reply_of (reply.Made a n) = MadeAs a n
reply_of (reply.Kept m) = KeptAt m
reply_of (reply.Known m) = KnownAt m
reply_of (reply.Refused why m) = RefusedAt why m
