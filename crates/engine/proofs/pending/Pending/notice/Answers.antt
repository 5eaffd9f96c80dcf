-- What a look found is kept with the notice; if none has found anything, the cell's answer is legal.
use Rattle.std.proofs.Common.{◌≡◌, Some, None, List, sym, ap, ◌∙◌, subst, refl}
use Rattle.std.specs.Option.{IfSome}
use Rattle.semantics.specs.Entries.{Entry}
use Rattle.semantics.specs.PeerAnswers.{IsAnswerWith}
use Rattle.replica.specs.operation.declared.submission.Submission.{Submission}
use Rattle.replica.specs.operation.Submissions.{reply_of, submitted_of}
use Rattle.command.specs.Answers.{Given}
use Rattle.engine.specs.Clients.{AwaitedAnswer, IsNoticeOf, answer_of}
use Rattle.engine.proofs.pending.Pending.notice.Goals as goal

pub returns-in-Some : goal.returns-in-Some
returns-in-Some g c =
    let own = g.N.EngineName.own in
    let table = g.N.EngineName.table in
    let k : AwaitedAnswer = record { submission = c.self.inside.submission; known = c.self.inside.note.known } in
    let n : List Entry = c.in-Some.notice in
    let held : IsNoticeOf own table k (Some n) = subst (IsNoticeOf own table k) c.in-Some.is c.self.invariant.1 in
    let x : Given = record { reply = held.0; history = n } in
    let known : answer_of c.args.self.now ≡ Some x = ap answer_of (sym c.self.view_is) ∙ held.1 in (
      x,
      refl,
      subst (λ (y : AwaitedAnswer). IsAnswerWith own table n (submitted_of y.submission) (reply_of held.0)) c.self.view_is held.2,
      subst (λ o. IfSome o (λ y. y ≡ x)) (sym known) refl,
    )

pub returns : goal.returns
returns g c =
    let own = g.N.EngineName.own in
    let table = g.N.EngineName.table in
    let k : AwaitedAnswer = record { submission = c.self.inside.submission; known = c.self.inside.note.known } in
    let held : IsNoticeOf own table k None = subst (IsNoticeOf own table k) c.in_default.is c.self.invariant.1 in
    let given = c.in_ok-given.given.now in
    let x : Given = record { reply = given.reply; history = given.notice } in
    let here : c.self.inside.submission ≡ c.args.self.now.submission = ap (λ (y : AwaitedAnswer). y.submission) c.self.view_is in
    let none : answer_of c.args.self.now ≡ None = ap answer_of (sym c.self.view_is) ∙ held in (
      x,
      refl,
      subst
          (λ (y : Submission). IsAnswerWith own table given.notice (submitted_of y) (reply_of given.reply)) (c.deref-2.ensures ∙ here)
          c.in_ok-given.ensures.1,
      subst (λ o. IfSome o (λ y. y ≡ x)) (sym none) tt,
    )
