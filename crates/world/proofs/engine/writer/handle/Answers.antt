use Rattle.std.proofs.Common.{inl, inr, ap}
use Rattle.semantics.specs.LegalAnswer.{Reply, Submitted}
use Rattle.semantics.specs.Handling.{Handler, Handles}
use Rattle.replica.specs.operation.Submissions.{reply_of, submitted_of}
use Rattle.replica.specs.Handlers.{handler_of}
use Rattle.world.specs.Parts.{IsHandledInPart}
use Rattle.world.proofs.engine.writer.handle.Goals as goal

-- whatever became of the submission, it was handled in part
in_part : (w v : Handler) (x : Submitted) (y : Reply) → Handles w x y v → IsHandledInPart w.replica x v.replica
in_part w v x y (inl whole) = inr (inl whole.replica)
in_part w v x y (inr (inl away)) = inl (ap (λ (u : Handler). u.replica) away.same)
in_part w v x y (inr (inr cut)) = inr (inr (cut.stamped, cut.replica.0, cut.request, cut.floor, cut.replica.1))

pub returns-then-handler-clause-stopped : goal.returns-then-handler-clause-stopped
returns-then-handler-clause-stopped c =
    let w = c.args.handler.now in
    in_part (handler_of w) (handler_of c.handle-reply.new.self) (submitted_of c.args.submission.now)
    (reply_of c.handle-reply.result) c.handle-reply.ensures.handled
