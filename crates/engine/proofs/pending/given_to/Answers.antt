use Rattle.std.proofs.Common.{rules, ◌≡◌, true, Some, None, refl, sym, ap, ◌∙◌}
use Rattle.std.specs.Prelude.{MatchOption}
use Rattle.semantics.specs.PeerAnswers.{IsAnswerWith}
use Rattle.replica.specs.operation.declared.submission.Submission.{Submission}
use Rattle.replica.specs.operation.Submissions.{reply_of, submitted_of}
use Rattle.replica.specs.operation.SameSubmissions.{is_same_submission}
use Rattle.engine.specs.Clients.{answer_in}
use Rattle.engine.proofs.Asking.{answer_inside, legal_for}
use Rattle.engine.proofs.pending.given_to.Goals as goal

pub returns : goal.returns
returns g c =
    let own = g.N.EngineName.own in
    let table = g.N.EngineName.table in
    let a = c.args.answer.now in
    let x = c.args.submission.now in
    let passed : c.is_same.result ≡ true = search rules in
    let same : is_same_submission a.submission x ≡ true = ap (λ (y : Submission). is_same_submission y x) (sym c.submission.ensures)
    ∙ sym c.is_same.ensures ∙ passed in
    elim c.given.result as
    (λ o. MatchOption o (a.given ≡ None)
    (λ y. (a.given ≡ Some (record { reply = y.now.reply; history = y.now.notice }))
    × IsAnswerWith own table y.now.notice (submitted_of a.submission) (reply_of y.now.reply))
    → MatchOption o (answer_in x (Some a) ≡ None)
    (λ y. (answer_in x (Some a) ≡ Some (record { reply = y.now.reply; history = y.now.notice }))
    × IsAnswerWith own table y.now.notice (submitted_of x) (reply_of y.now.reply))) [
      | Some y ↦ λ h. (
        answer_inside a x same
            ∙ h.0,
        legal_for own table y.now.notice y.now.notice a.submission x (reply_of y.now.reply) refl same h.1,
      )
      | None ↦ λ h. answer_inside a x same ∙ h
    ] c.given.ensures
