use Rattle.std.proofs.Common.{◌≡◌, Some, [], ◌∷◌, ◌++◌, length, map, set}
use Rattle.std.proofs.Common.{sym, ap, ◌∙◌, slice_get, subst, arith}
use Rattle.std.proofs.lemmas.List.{map-set, map-append}
use Rattle.std.proofs.lemmas.Option.{same_Some}
use Rattle.semantics.specs.LegalAnswer.{Request, Submitted}
use Rattle.semantics.specs.Engine.{Engine as TheEngine, Client as TheClient, Outcome, Ticket}
use Rattle.semantics.specs.WriteSteps.{next_submission, with_cell}
use Rattle.replica.specs.operation.Submissions.{request_of, submitted_of}
use Rattle.world.specs.Engines.{client_of}
use Rattle.world.specs.contracts.engine.Engine.{the_view}
use Rattle.world.proofs.SingleSteps.{set_itself}
use Rattle.world.proofs.TakenRequests.{queue_full, queued, serials_end, stands}
use Rattle.world.proofs.Results.{on_err}
use Rattle.world.proofs.engine.Engine.submit.Goals as goal

pub returns-then-len-self-clause-reply : goal.returns-then-len-self-clause-reply
returns-then-len-self-clause-reply c k there_now =
    serials_end c.self.inside c.args.self.now c.args.client c.args.request c.index-k.result.now c.self.view_is
    c.requires.there c.index-k.ensures (omega arith)

pub returns-then-len-self-2-clause-reply : goal.returns-then-len-self-2-clause-reply
returns-then-len-self-2-clause-reply c k there_now =
    queue_full c.self.inside c.args.self.now c.args.client c.args.request c.index-k.result.now c.self.view_is
    c.requires.there c.index-k.ensures (omega arith) (omega arith)

pub returns-in_err-enqueue-clause-unchanged : goal.returns-in_err-enqueue-clause-unchanged
returns-in_err-enqueue-clause-unchanged c =
    let E : TheEngine = the_view c.self.inside in
    let ks = c.self.inside.clients.items in
    let at = c.args.client in
    let m = c.index_mut-k.result.now in
    let there = stands c.self.inside c.args.self.now at m c.self.view_is c.requires.there c.index_mut-k.ensures.value in
    let clients : map client_of (set ks at c.enqueue.new.k) ≡ map client_of ks =
    map-set client_of ks at c.enqueue.new.k
    ∙ ap (set (map client_of ks) at) c.in_err-enqueue.ensures.unchanged
    ∙ set_itself (map client_of ks) at (client_of m) there in
    on_err c.from_residual.result
    ((λ i. record E { queue = map submitted_of (c.in_err-enqueue.ensures.unqueued i); clients = clients i }) ∙ c.self.view_is)

pub returns-clause-engine : goal.returns-clause-engine
returns-clause-engine c =
    let e = c.self.inside in
    let E : TheEngine = the_view e in
    let ks = e.clients.items in
    let at = c.args.client in
    let k = c.index-k.result.now in
    let m = c.index_mut-k.result.now in
    let q : Request = request_of c.args.request in
    let there = stands e c.args.self.now at k c.self.view_is c.requires.there c.index-k.ensures in
    let again = stands e c.args.self.now at m c.self.view_is c.requires.there c.index_mut-k.ensures.value in
    let same : client_of m ≡ client_of k = same_Some (client_of m) (client_of k) (sym again ∙ there) in
    let submission : submitted_of c.next_submission-submission.result
    ≡ next_submission at (client_of k) q = c.next_submission-submission.ensures.submission in
    let queue : map submitted_of c.enqueue.new.queue.items ≡ E.queue ++ next_submission at (client_of k) q ∷ [] =
    ap (map submitted_of) c.in_ok-enqueue.ensures.queue
    ∙ map-append submitted_of e.queue.items (c.next_submission-submission.result ∷ [])
    ∙ ap (λ (x : Submitted). E.queue ++ x ∷ []) submission in
    let clients : map client_of (set ks at c.enqueue.new.k)
    ≡ set (map client_of ks) at (with_cell (client_of k) (next_submission at (client_of k) q)) =
    map-set client_of ks at c.enqueue.new.k
    ∙ ap (set (map client_of ks) at) (c.in_ok-enqueue.ensures.client ∙ (λ i. with_cell (same i) (submission i))) in
    (λ i. record E { queue = queue i; clients = clients i })
    ∙ sym (ap (λ (t : Outcome). t.engine) (queued e c.args.self.now at c.args.request k c.self.view_is c.requires.there c.index-k.ensures
    (omega arith) (omega arith)))

pub returns-clause-reply : goal.returns-clause-reply
returns-clause-reply c k there_now =
    let e = c.self.inside in
    let read : TheClient = client_of c.index-k.result.now in
    let there = stands e c.args.self.now c.args.client c.index-k.result.now c.self.view_is c.requires.there c.index-k.ensures in
    let same : read ≡ k = same_Some read k
    (sym (subst (λ (F : TheEngine). slice_get F.clients c.args.client ≡ Some read) c.self.view_is there) ∙ there_now) in
    ap (λ (t : Outcome). t.reply) (queued c.self.inside c.args.self.now c.args.client c.args.request c.index-k.result.now c.self.view_is
    c.requires.there c.index-k.ensures (omega arith) (omega arith))
    ∙ ap Ticket (let l = ap (λ (x : TheClient). length x.cells) same in omega (arith, l))
