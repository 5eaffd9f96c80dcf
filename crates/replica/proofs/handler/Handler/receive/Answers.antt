use Rattle.std.proofs.Common.{◌≢◌, Err, rules, ap, ◌∙◌}
use Rattle.ids.specs.declared.refusal.Refusal.TheVariants.{NoMemory}
use Rattle.semantics.specs.WriteSteps.{reply_delivered}
use Rattle.replica.specs.Replicas.{replica_of}
use Rattle.inbox.specs.operation.Submissions.{reply_of}
use Rattle.inbox.specs.operation.Ops.{stamped_of}
use Rattle.replica.specs.Handlers.{outcome_of, handler_of}
use Rattle.replica.proofs.Peers.{handled_peer}
use Rattle.replica.proofs.handler.Handler.receive.Goals as goal

pub returns-clause-handled : goal.returns-clause-handled
returns-clause-handled g c x is floor =
    let r = replica_of c.args.self.now.replica in
    let s = stamped_of c.args.op.now in
    let other : c.deliver-answer.result ≢ Err NoMemory = search rules in
    let d = c.deliver-answer.ensures.delivered other in
    handled_peer (handler_of c.args.self.now) x s (outcome_of c.deliver-answer.result) (replica_of c.deliver-answer.new.replica)
    (replica_of c.drain.new.self) (reply_of c.reply_to.result) is floor d.0 d.1
    (c.reply_to.ensures ∙ ap (λ n. reply_delivered n (outcome_of c.deliver-answer.result)) c.history_len-2.ensures)
    c.drain.result c.drain.ensures.drained c.drain.ensures.partly c.is_err-self.result c.is_err-self.ensures.value
