use Rattle.std.proofs.Common.{◌+◌, length, sym, ap, ◌∙◌, arith}
use Rattle.semantics.specs.LegalAnswer.{OfCommand}
use Rattle.semantics.specs.Engine.{Engine as TheEngine, Ticket}
use Rattle.semantics.specs.WriteSteps.{push}
use Rattle.replica.specs.operation.declared.command.Command.{Command}
use Rattle.replica.specs.operation.Ops.{command_of}
use Rattle.world.specs.Engines.{taken_or_denied}
use Rattle.world.proofs.TakenRequests.{client_there}
use Rattle.world.proofs.engine.Engine.push.Goals as goal

pub returns-in-Some-clause-reply : goal.returns-in-Some-clause-reply
returns-in-Some-clause-reply c =
    let A : TheEngine = c.args.self.now in
    let at = c.args.client in
    let k = client_there c.self.inside A at c.self.view_is (omega arith) in
    sym (c.in_ok-why.ensures.reply k.0 k.1 ∙ ap (taken_or_denied (length k.0.cells + 1)) c.in-Some.is)
    ∙ ap (λ (d : Command). (push A at (OfCommand (command_of d))).reply)
    c.in_ok-clone.ensures.cases

pub returns-in-None-clause-reply : goal.returns-in-None-clause-reply
returns-in-None-clause-reply c =
    let A : TheEngine = c.args.self.now in
    let at = c.args.client in
    let k = client_there c.self.inside A at c.self.view_is (omega arith) in
    ap Ticket (c.next_serial-serial.ensures k.0 k.1)
    ∙ sym (c.in_ok-why.ensures.reply k.0 k.1 ∙ ap (taken_or_denied (length k.0.cells + 1)) c.in-None.is)
    ∙ ap (λ (d : Command). (push A at (OfCommand (command_of d))).reply)
    c.in_ok-clone.ensures.cases
