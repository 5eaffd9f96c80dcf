use Rattle.std.proofs.Common.{rules, ◌≡◌, ℕ, suc, ◌==◌, ◌≢◌, inr, Some, cond, length, map, sym, ap, ◌∙◌}
use Rattle.std.proofs.Common.{arith, add-one}
use Rattle.ids.specs.declared.refusal.Refusal.TheVariants.{NoMemory}
use Rattle.semantics.specs.Engine.{Outcome, Received}
use Rattle.semantics.specs.PeerSteps.{Receipt, as_received}
use Rattle.replica.specs.operation.Ops.{stamped_of}
use Rattle.world.specs.Engines.{stop_after}
use Rattle.world.proofs.StoppedReceipts.{between_same}
use Rattle.world.proofs.TakenRequests.{receives}
use Rattle.world.proofs.Results.{on_err}
use Rattle.world.proofs.engine.Engine.receive.Goals as goal

pub returns-in_err-submitted-clause-stopped : goal.returns-in_err-submitted-clause-stopped
returns-in_err-submitted-clause-stopped c =
    let ss = map stamped_of c.args.read.ops.items in
    let k = receives c.self.inside c.args.self.now c.args.client ss c.args.read.stopped c.self.view_is (omega arith) in
    let other : c.args.read.stopped ≢ Some NoMemory = search rules in
    on_err c.from_residual.result
    (inr (
      other,
      between_same (sym (ap (λ (t : Outcome). t.engine) k.2))
          (c.in_err-submitted.ensures.stopped c.args.read.stopped),
    ))

pub returns-clause-engine : goal.returns-clause-engine
returns-clause-engine c =
    let ss = map stamped_of c.args.read.ops.items in
    let k = receives c.self.inside c.args.self.now c.args.client ss c.args.read.stopped c.self.view_is (omega arith) in
    sym (ap (λ (r : Receipt). r.engine) (c.in_ok-submitted.ensures.submitted c.args.read.stopped))
    ∙ sym (ap (λ (t : Outcome). t.engine) k.2)

pub returns-clause-reply : goal.returns-clause-reply
returns-clause-reply c =
    let n : ℕ = c.in_ok-submitted.submitted in
    let ss = map stamped_of c.args.read.ops.items in
    let k = receives c.self.inside c.args.self.now c.args.client ss c.args.read.stopped c.self.view_is (omega arith) in
    let serial : c.next_serial-serial.result ≡ suc (length k.0.cells) = c.next_serial-serial.ensures k.0 k.1 ∙ add-one (length k.0.cells) in
    let all = c.in_ok-submitted.ensures.submitted c.args.read.stopped in
    (λ i. Received ((c.first_serial.ensures ∙ ap (cond (n == 0) 0) serial) i) n
    ((c.stop_after.ensures ∙ ap (stop_after n) c.first_refusal-why.ensures) i))
    ∙ sym (ap (λ (r : Receipt). (as_received (suc (length k.0.cells)) r).reply) all)
    ∙ sym (ap (λ (t : Outcome). t.reply) k.2)
