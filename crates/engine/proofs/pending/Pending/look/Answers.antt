use Rattle.std.proofs.Common.{◌≡◌, Some, List, refl, sym, ap, ◌∙◌, subst}
use Rattle.semantics.specs.Entries.{Entry}
use Rattle.semantics.specs.PeerAnswers.{IsAnswerWith}
use Rattle.replica.specs.operation.declared.submission.Submission.{Submission}
use Rattle.replica.specs.operation.Submissions.{reply_of, submitted_of}
use Rattle.engine.specs.Clients.{AwaitedAnswer, answer_in}
use Rattle.engine.proofs.Asking.{answer_found}
use Rattle.engine.proofs.pending.Pending.look.Goals as goal

pub returns-clause-answer : goal.returns-clause-answer
returns-clause-answer g c =
    let own = g.N.EngineName.own in
    let table = g.N.EngineName.table in
    let reply = c.in_ok-given.given.now.reply in
    let submission = c.deref-2.result.now in
    let here : submission ≡ c.args.self.now.submission = c.deref-2.ensures ∙ ap (λ (k : AwaitedAnswer). k.submission) c.self.view_is in (
      answer_found _ c.in_ok-answer.answer.now c.self.inside.submission c.in_ok-answer.ensures.value.0 refl
          ∙ ap (λ (x : Submission). answer_in x (Some c.in_ok-answer.answer.now)) (sym c.deref-2.ensures)
          ∙ c.in_ok-given.ensures.0
          ∙ ap (λ (G : List Entry). Some (record { reply = reply; history = G })) (sym c.again-2.ensures),
      subst (λ (x : Submission). IsAnswerWith own table c.again-2.result (submitted_of x) (reply_of reply)) here
          (subst (λ (G : List Entry). IsAnswerWith own table G (submitted_of submission) (reply_of reply)) (sym c.again-2.ensures)
          c.in_ok-given.ensures.1),
    )
