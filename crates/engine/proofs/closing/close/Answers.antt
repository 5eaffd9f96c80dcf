-- The clients end one after another; what they had sent and what is left in the queue is all that each submitted.
use Rattle.std.proofs.Common.{◌≡◌, ◌<◌, ◌++◌, ℕ, List, Some, length, sym, ap, ◌∙◌, subst, arith, refl, rules}
use Rattle.std.specs.List.{All}
use Rattle.atomic_table.specs.Seated.{TableId}
use Rattle.crossbeam_queue.specs.Passes.{view}
use Rattle.semantics.specs.Entries.{Entry, Own, entry_at, IsEntryHistory}
use Rattle.replica.specs.oplog.Logs.{history}
use Rattle.semantics.specs.WorldHistory.{BeginsWith}
use Rattle.replica.specs.operation.declared.submission.Submission.{Submission}
use Rattle.command.specs.InOrder.{of}
use Rattle.command.specs.published.Rules.{IsQueueOf}
use Rattle.engine.specs.Clients.{submissions_by}
use Rattle.engine.specs.WriterSteps.{Writer}
use Rattle.engine.proofs.OwnSubmissions.{own_submitted}
use Rattle.engine.proofs.Gathering.{gathering_none, gathering_more, gathered_seen, known_at, sent_by}
use Rattle.engine.proofs.closing.close.Goals as goal

pub end-requires : goal.end-requires
end-requires g c = subst (λ (q : TableId). IsQueueOf q c.writer.inside.queue_name.seen.log)
    (sym c.loop-client.invariant.4) c.writer.invariant.named

pub loop-client-init : goal.loop-client-init
loop-client-init g c = (
  tt,
  tt,
  gathering_none _ _ _ _ (search rules) c.writer.invariant.none_ended,
  refl,
  refl,
  refl,
)

pub loop-client-preserved : goal.loop-client-preserved
loop-client-preserved g c = (
  tt,
  tt,
  gathering_more _ _ _ c.next.new.self.rest.items c.in-Some.client _ _ _ _ c.loop-client.invariant.2 c.in-Some.ensures.steps.0
      c.end.ensures.taker.2 c.end.ensures.seen c.notice-notice.ensures.published,
  c.end.ensures.taker.1 ∙ c.loop-client.invariant.3,
  c.end.ensures.taker.0 ∙ c.loop-client.invariant.4,
  c.end.ensures.taker.3 ∙ c.loop-client.invariant.5,
)

pub returns-clause-seen : goal.returns-clause-seen
returns-clause-seen g c = gathered_seen _ _ _ _ _ _ c.loop-client.invariant.2 (search rules)
    (ap (λ (w : Writer). w.published) (sym c.writer.view_is))

pub returns-clause-taken : goal.returns-clause-taken
returns-clause-taken g c =
    let q = c.rest.ensures.whole in
    let got : (view c.loop-client.taker.pass).got ≡ c.args.writer.took = c.loop-client.invariant.3
    ∙ ap (λ (w : Writer). w.took) c.writer.view_is in
    let made : (view c.loop-client.taker.pass).made ≡ c.args.writer.clients = c.loop-client.invariant.5
    ∙ ap (λ (w : Writer). w.clients) c.writer.view_is in
    let held : c.len-2.result ≡ length c.writer.inside.held.items = search rules in
    let same : length c.writer.inside.held.items ≡ length c.args.writer.held = ap (λ (w : Writer). length w.held) c.writer.view_is in (
      q.0,
      omega (arith, held, same, q.1),
      λ k d at. ap (λ (l : List Submission). of d.number (l ++ q.0)) (sym got)
          ∙ q.2 k (sent_by d) (known_at _ _ _ _ _ c.loop-client.invariant.2 (search rules) k d at),
      subst (λ (l : List Submission). All (λ (x : Submission). x.client < c.args.writer.clients) (l ++ q.0)) got
          (subst (λ n. All (λ (x : Submission). x.client < n) ((view c.loop-client.taker.pass).got ++ q.0)) made q.3),
    )

pub returns-clause-own : goal.returns-clause-own
returns-clause-own g c k d at n serial command s there =
    let q = c.rest.ensures.whole in
    let P : List Entry = c.writer.inside.publisher.published in
    let begins : BeginsWith c.writer.inside.handler.replica.document.entries P = subst
    (λ (G : List Entry). BeginsWith G P) c.writer.invariant.holds.appended c.notice-notice.ensures.appended in
    let all : of d.number ((view c.writer.inside.taker.pass).got ++ q.0)
    ≡ submissions_by d = ap (λ (l : List Submission). of d.number (l ++ q.0)) (sym c.loop-client.invariant.3)
    ∙ q.2 k (sent_by d) (known_at _ _ _ _ _ c.loop-client.invariant.2 (search rules) k d at) in
    own_submitted (view c.writer.inside.taker.pass).got q.0
    (submissions_by d) P c.writer.inside.handler.replica.document.entries n d.number serial command s
    c.writer.invariant.come_from begins all
    (subst (λ (G : List Entry). entry_at n G ≡ Some (Own d.number serial command s))
    (sym (ap (λ (w : Writer). w.published) c.writer.view_is)) there)

pub returns-clause-history : goal.returns-clause-history
returns-clause-history g c =
    let own = g.N.EngineName.own in
    let published : c.writer.inside.publisher.published ≡ c.args.writer.published = ap (λ (w : Writer). w.published) c.writer.view_is in
    let entries : history c.into_entries.result.items ≡ c.writer.inside.publisher.published =
    subst (λ (t : List ℕ). history c.into_entries.result.items ≡ c.writer.inside.publisher.published) c.end-document.ensures.document.0
    (c.into_entries.ensures ∙ c.end-document.ensures.document.1) in (
      entries ∙ published,
      subst (λ (G : List Entry). IsEntryHistory own G)
          (c.notice-notice.ensures.published ∙ published) c.len.ensures.legal,
    )
