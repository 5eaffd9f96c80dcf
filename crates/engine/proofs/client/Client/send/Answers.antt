use Rattle.std.proofs.Common.{◌≡◌, List, None, length, ◌+◌, ap, subst, sym, ◌∙◌, rules}
use Rattle.std.specs.Arc.{arc_value}
use Rattle.crossbeam_queue.specs.Passes.{ruled_capacity, view as pass_view}
use Rattle.atomic_table.specs.Seated.{TableId}
use Rattle.command.specs.published.Rules.{IsQueueOf}
use Rattle.replica.specs.operation.declared.submission.Submission.{Submission}
use Rattle.engine.specs.Clients.{AwaitedAnswer, Client}
use Rattle.engine.proofs.Sending.{next_submission, as_next, keeps_next, sent_more, sent_one}
use Rattle.engine.proofs.client.Client.send.Goals as goal

pub returns-in-Ok-send-clause-kept : goal.returns-in-Ok-send-clause-kept
returns-in-Ok-send-clause-kept g c =
    let me : Client = c.args.self.now in
    let room : ruled_capacity (arc_value c.send.new.self.queue) ≡ ruled_capacity (arc_value c.self.inside.sender.queue) = search rules in
    let x : Submission = next_submission me c.args.request in
    let submission : c.in-Ok.kept.submission
    ≡ x = as_next me _ _ _ _ (ap (λ (z : Client). z.number) c.self.view_is) c.requires
    (c.seen_len.ensures.length ∙ ap (λ (z : Client). length z.seen) c.self.view_is) _ c.in-Ok.ensures.submission.1 in
    let kept : c.in-Ok.kept ≡ record { submission = x; known = None } = keeps_next _ x submission c.in-Ok.ensures.submission.2 in
    sent_one me _ c.reserve.new.self.items c.in-Ok.kept (record { submission = x; known = None })
    (ap (λ (z : Client). z.replica) c.self.view_is)
    (ap (λ (z : Client). z.number) c.self.view_is) (ap (λ (z : Client). z.serials) c.self.view_is)
    (room ∙ ap (λ (z : Client). z.capacity) c.self.view_is)
    (c.in-Ok-send.ensures.full ∙ ap (λ (z : Client). z.found_full) c.self.view_is)
    (ap (λ (z : Client). z.seen) c.self.view_is) (ap (λ (z : Client). z.read) c.self.view_is)
    (ap (λ (z : Client). z.reads) c.self.view_is)
    c.push_reserved.ensures.items (◌∙◌ {A = List AwaitedAnswer} c.reserve.ensures.items (ap (λ (z : Client). z.kept) c.self.view_is)) kept

pub invariant_of-self-in-Ok-send : goal.invariant_of-self-in-Ok-send
invariant_of-self-in-Ok-send g c =
    let is = c.in-Ok.ensures.submission in
    let more = sent_more c.self.inside.number (pass_view c.self.inside.sender.pass).put _ c.self.inside.kept.items
    c.reserve.new.self.items _ c.in-Ok.kept _ c.self.invariant.1 c.self.invariant.2 c.reserve.ensures.items c.push_reserved.ensures.items
    (is.1 ∙ sym is.0) c.in-Ok-send.ensures.sent (ap (λ (z : Submission). z.client) is.0)
    (ap (λ (z : Submission). z.serial) is.0 ∙ c.requires ∙ ap (λ (z : Client). length z.kept + 1) (sym c.self.view_is)) in (
      c.in-Ok-send.ensures.same.1 ∙ c.self.invariant.0,
      more.0,
      more.1,
      subst (λ (q : TableId). IsQueueOf q c.self.inside.queue_name.seen.log) (sym c.in-Ok-send.ensures.same.0) c.self.invariant.3,
    )
