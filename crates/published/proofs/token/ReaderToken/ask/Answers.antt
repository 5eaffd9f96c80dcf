use Rattle.std.proofs.Common.{rules, inl, inr}
use Rattle.std.proofs.lemmas.Result.{IfErr-weaker}
use Rattle.published.proofs.token.ReaderToken.ask.Goals as goal

pub returns-clause-view_refuses : goal.returns-clause-view_refuses
returns-clause-view_refuses g c = IfErr-weaker c.ask-answer.result _ _ (λ why said. elim said [
  | inl memory ↦ inl (inl memory)
  | inr refused ↦ inr (λ q is. search rules)
]) c.ask-answer.ensures.view_refuses
