use Rattle.std.proofs.Common.{◌≡◌, refl, ap, ◌∙◌}
use Rattle.semantics.specs.Engine.{Handled}
use Rattle.published.specs.operation.Submissions.{submitted_of}
use Rattle.command.specs.Answers.{AnswerCell}
use Rattle.command.proofs.envelope.Handled.tell.Goals as goal

pub returns-in-Ok : goal.returns-in-Ok
returns-in-Ok g c =
    let same : c.fill.new.self.submission ≡ c.self.inside.envelope.answer.value.submission = c.fill.ensures.0
    ∙ ap (λ (a : AnswerCell). a.submission) c.deref_mut.ensures.value in (
      c.fill.new.self,
      c.in-Ok.ensures.value.0,
      (
        ap submitted_of same
            ∙ ap (λ (h : Handled). h.submitted) c.self.view_is,
        (
          record { reply = c.self.inside.reply; history = c.args.notice },
          c.fill.ensures.1,
          ap (λ (h : Handled). h.reply) c.self.view_is,
          refl,
        ),
      ),
    )
