use Rattle.std.proofs.Common.{◌≡◌, ◌<◌, ℕ, List, None, Some, length, map, sym, ap, ◌∙◌, slice_get, get_or}
use Rattle.std.specs.List.{each_same}
use Rattle.std.proofs.lemmas.Bool.{ltb-true}
use Rattle.std.proofs.lemmas.Result.{IfOk-weaker, on_ok_weaker}
use Rattle.semantics.specs.Stamped.{Stamped}
use Rattle.semantics.specs.Engine.{Engine as TheEngine, Bundle, Outcome}
use Rattle.semantics.specs.PeerSteps.{receive_lines, receive_message}
use Rattle.semantics.specs.World.{Deliver}
use Rattle.replica.specs.operation.declared.op.Op.{Op}
use Rattle.replica.specs.operation.Ops.{stamped_of}
use Rattle.world.specs.declared.message.Message.{Message}
use Rattle.world.specs.Engines.{message_of}
use Rattle.world.proofs.BetweenEngines.{not_begun}
use Rattle.world.proofs.ReachedWorlds.{reached_sound}
use Rattle.world.proofs.SingleSteps.{read_mapped}
use Rattle.world.proofs.StoppedReceipts.{message_stopped}
use Rattle.world.proofs.Results.{on_err, then_err}
use Rattle.world.proofs.engine.Engine.deliver.Goals as goal

-- the message of this number is the bundle of these operations
bundle_at : (messages : List Message) (at : ℕ) (r : Message) (ops : List Op) → at < length messages → r ≡ get_or messages at r
    → message_of r ≡ Bundle (map stamped_of ops) → slice_get (map message_of messages) at ≡ Some (Bundle (map stamped_of ops))
bundle_at messages at r ops inside read is = read_mapped message_of messages at r inside read ∙ ap Some is

-- receiving it is receiving their lines
received : (E : TheEngine) (c : ℕ) (messages : List Message) (at : ℕ) (r : Message) (b ops : List Op) → at < length messages
    → r ≡ get_or messages at r → message_of r ≡ Bundle (map stamped_of b) → ops ≡ b
    → receive_lines E c (map stamped_of ops) None ≡ receive_message E c (slice_get (map message_of messages) at)
received E c messages at r b ops inside read is same =
    ap (λ (xs : List Op). receive_lines E c (map stamped_of xs) None) same
    ∙ sym (ap (receive_message E c) (bundle_at messages at r b inside read is))

pub returns-in_err-ops-clause-stopped : goal.returns-in_err-ops-clause-stopped
returns-in_err-ops-clause-stopped c =
    let A : TheEngine = c.args.self.now in
    on_err c.from_residual.result
    (not_begun (map message_of c.args.messages.now) (Deliver c.args.client c.args.message) A (reached_sound A c.requires.reached))

pub returns-clause-engine : goal.returns-clause-engine
returns-clause-engine c =
    let b : List Op = c.in-Some-Bundle.bundle.items in
    let ops : List Op = c.in_ok-ops.ops.items in
    on_ok_weaker c.receive.result
    (λ e. e
    ∙ ap (λ (t : Outcome). t.engine)
    (received c.args.self.now c.args.client c.args.messages.now c.args.message c.in-Some-Bundle.field-0.now b ops
    (ltb-true c.args.message (length c.args.messages.now) (sym c.in-Some-Bundle.ensures.lookup.0)) c.in-Some-Bundle.ensures.lookup.1
    (ap message_of c.in-Some-Bundle.field-0-is) (each_same b ops c.in_ok-ops.ensures.cases.0)))
    c.receive.ensures.engine

pub returns-clause-reply : goal.returns-clause-reply
returns-clause-reply c =
    let b : List Op = c.in-Some-Bundle.bundle.items in
    let ops : List Op = c.in_ok-ops.ops.items in
    IfOk-weaker c.receive.result _ _
    (λ r e. e
    ∙ ap (λ (t : Outcome). t.reply)
    (received c.args.self.now c.args.client c.args.messages.now c.args.message c.in-Some-Bundle.field-0.now b ops
    (ltb-true c.args.message (length c.args.messages.now) (sym c.in-Some-Bundle.ensures.lookup.0)) c.in-Some-Bundle.ensures.lookup.1
    (ap message_of c.in-Some-Bundle.field-0-is) (each_same b ops c.in_ok-ops.ensures.cases.0)))
    c.receive.ensures.reply

pub returns-clause-stopped : goal.returns-clause-stopped
returns-clause-stopped c =
    let A : TheEngine = c.args.self.now in
    let b : List Op = c.in-Some-Bundle.bundle.items in
    let ss : List Stamped = map stamped_of b in
    let ops : List Op = c.in_ok-ops.ops.items in
    let messages = c.args.messages.now in
    let at = c.args.message in
    let is : slice_get (map message_of messages) at ≡ Some (Bundle ss) = bundle_at messages at c.in-Some-Bundle.field-0.now b
    (ltb-true at (length messages) (sym c.in-Some-Bundle.ensures.lookup.0)) c.in-Some-Bundle.ensures.lookup.1
    (ap message_of c.in-Some-Bundle.field-0-is) in
    let read : map stamped_of ops ≡ ss = ap (map stamped_of) (each_same b ops c.in_ok-ops.ensures.cases.0) in
    then_err c.receive.result
    (λ part. message_stopped A c.receive.new.self c.args.client (slice_get (map message_of messages) at) ss (map stamped_of ops)
    (reached_sound A c.requires.reached) is read part)
    c.receive.ensures.stopped
