-- The answer to a hello: there is none, or it gets a bundle.
use Rattle.std.proofs.Common.{arith, ◌≡◌, [], ◌∷◌, ◌++◌, List, length, map, sym, ap, ◌∙◌, append-nil}
use Rattle.std.proofs.lemmas.List.{length-map, map-append}
use Rattle.semantics.specs.Engine.{Message as TheMessage, Bundle as TheBundle, Outcome, SentBundle}
use Rattle.semantics.specs.Stamped.{Stamped}
use Rattle.semantics.specs.PeerSteps.{lacked}
use Rattle.replica.specs.operation.Ops.{stamped_of}
use Rattle.world.specs.Engines.{message_of}
use Rattle.world.proofs.AnsweredHellos.{answered-none, answered-given}
use Rattle.world.proofs.engine.Engine.bundle.Goals as goal

-- nothing more is sent
none_sent : (ms ns : List TheMessage) → ns ≡ [] → ms ≡ ms ++ ns
none_sent ms ns none = sym (append-nil ms) ∙ ap (λ xs. ms ++ xs) (sym none)

pub returns-in_default-clause-engine : goal.returns-in_default-clause-engine
returns-in_default-clause-engine c =
    let all = answered-none c.args.self.now c.args.token c.args.messages.now.items _ c.args.message c.deref.ensures.value
    c.in_default.ensures.none in
    sym (ap (λ (t : Outcome). t.engine) all.0)

pub returns-in_default-clause-reply : goal.returns-in_default-clause-reply
returns-in_default-clause-reply c =
    let all = answered-none c.args.self.now c.args.token c.args.messages.now.items _ c.args.message c.deref.ensures.value
    c.in_default.ensures.none in
    sym (ap (λ (t : Outcome). t.reply) all.0)

pub returns-in_default-clause-sent : goal.returns-in_default-clause-sent
returns-in_default-clause-sent c =
    let all = answered-none c.args.self.now c.args.token c.args.messages.now.items _ c.args.message c.deref.ensures.value
    c.in_default.ensures.none in
    none_sent _ _ all.1

pub returns-clause-engine : goal.returns-clause-engine
returns-clause-engine c =
    let all = answered-given c.args.self.now c.args.token c.args.messages.now.items _ c.args.message c.deref.ensures.value
    c.in-Some.hello.now c.in-Some.ensures.some in
    c.see_published.ensures ∙ sym (ap (λ (t : Outcome). t.engine) all.0)

pub returns-clause-reply : goal.returns-clause-reply
returns-clause-reply c =
    let all = answered-given c.args.self.now c.args.token c.args.messages.now.items _ c.args.message c.deref.ensures.value
    c.in-Some.hello.now c.in-Some.ensures.some in
    let lacks = ap (length {A = Stamped}) c.in_ok-bundle.ensures in
    let mapped = length-map c.in_ok-bundle.bundle.items stamped_of in
    let operations : c.len-operations.result
    ≡ length (lacked c.args.self.now c.in-Some.hello.now) =
    omega (arith, lacks, mapped, c.len-operations.ensures) in
    let number : c.len-message.result ≡ length c.args.messages.now.items = (let l = c.len-message.ensures in omega (arith, l)) in
    (λ i. SentBundle (number i) (operations i)) ∙ sym (ap (λ (t : Outcome). t.reply) all.0)

pub returns-clause-sent : goal.returns-clause-sent
returns-clause-sent c =
    let all = answered-given c.args.self.now c.args.token c.args.messages.now.items _ c.args.message c.deref.ensures.value
    c.in-Some.hello.now c.in-Some.ensures.some in
    ap (map message_of) c.in_ok-push.ensures.items
    ∙ map-append message_of c.args.messages.now.items _
    ∙ ap (λ (ss : List Stamped). map message_of c.args.messages.now.items ++ TheBundle ss ∷ []) c.in_ok-bundle.ensures
    ∙ ap (λ (ns : List TheMessage). map message_of c.args.messages.now.items ++ ns) (sym all.1)
