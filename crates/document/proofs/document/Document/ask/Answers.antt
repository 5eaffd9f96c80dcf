use Rattle.std.proofs.Common.{◌≡◌, inl, inr, sym, ap, ◌∙◌}
use Rattle.std.proofs.lemmas.Result.{IfErr-weaker, IfOk-weaker}
use Rattle.semantics.specs.Questions.{Answer}
use Rattle.semantics.specs.LegalAnswer.{Answered, reading_of}
use Rattle.document.proofs.Consistent.{answer_is_view}
use Rattle.document.proofs.document.Document.ask.Goals as goal

-- an answer that is another is refused as that is
same_answer : (a b r : Answer) → a ≡ b → Answered a ≡ Answered r → b ≡ r
same_answer a b r same refused = (let is : a ≡ r = cc in sym same ∙ is)

pub returns-clause-view : goal.returns-clause-view
returns-clause-view c = rw (← c.self.view_is)
    (IfOk-weaker c.answer.result _ _
    (λ r said q is. said ∙ ap (reading_of c.self.inside.log.entries) is
    ∙ ap Answered (answer_is_view _ _ _ _ c.self.invariant.consistent q)) c.answer.ensures.answer)

pub returns-clause-view_refuses : goal.returns-clause-view_refuses
returns-clause-view_refuses c = rw (← c.self.view_is)
    (IfErr-weaker c.answer.result _ _ (λ why said. elim said [
      | inl memory ↦ inl memory
      | inr refused ↦ inr
          (λ q is. same_answer _ _ _ (answer_is_view _ _ _ _ c.self.invariant.consistent q)
          (ap (reading_of c.self.inside.log.entries) (sym is) ∙ refused))
    ]) c.answer.ensures.err)
